use Rattle.std.proofs.Common.{◌∙◌, ap, true, string_bytes}
use Rattle.std.specs.Prelude.{◌||◌}
use Rattle.std.proofs.lemmas.Map.Text.{btree_set_updates_text}
use Rattle.std.specs.BTreeSet.{contains_text}
use Rattle.std.specs.Str.{bytes_eq}
use Rattle.ix_vform.proofs.Keeping.{cond_or}
use Rattle.ix_vform.proofs.role.mark.Goals as goal

pub returns-in-Ok-insert : goal.returns-in-Ok-insert
returns-in-Ok-insert c = λ n.
    btree_set_updates_text (string_bytes c.in-Ok.key) c.args.names.now c.insert.new.self true c.in-Ok-insert.ensures.updates n
    ∙ cond_or (bytes_eq (string_bytes c.in-Ok.key) n) (contains_text c.args.names.now n) ∙ ap (λ z. bytes_eq z n || contains_text c.args.names.now n) c.in-Ok.ensures.ok
