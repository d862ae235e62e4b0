use Rattle.std.proofs.Common.{◌∙◌, ap, Some, List, ℕ, Option}
use Rattle.std.proofs.lemmas.Map.Text.{btree_map_updates_str}
use Rattle.rv_asm.specs.Labels.{found, kept, marked, is_labelled}
use Rattle.rv_asm.proofs.Noting.{noted}
use Rattle.rv_asm.proofs.label.note.Goals as goal

pub returns-in_ok-insert-in-None : goal.returns-in_ok-insert-in-None
returns-in_ok-insert-in-None c = λ q.
    noted c.args.labels.now c.insert.new.self c.in-Some.name.now c.args.place c.in-None.ensures
    (btree_map_updates_str c.in-Some.name.now c.args.labels.now c.insert.new.self (Some c.args.place) c.in_ok-insert-in-None.ensures.updates) q
    ∙ ap (λ (o : Option (List ℕ)). kept (found c.args.labels.now q) (marked (is_labelled q o) c.args.place)) c.in-Some.ensures
