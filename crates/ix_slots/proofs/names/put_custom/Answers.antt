use Rattle.std.proofs.Common.{◌≡◌, ◌∙◌, ap, sym, subst, ℕ, List, Result, OnOk, Some, string_bytes}
use Rattle.std.proofs.lemmas.Map.Text.{btree_map_updates_text}
use Rattle.std.specs.BTreeMap.{get_by_text}
use Rattle.std.specs.Map.{update}
use Rattle.std.specs.Str.{bytes_eq}
use Rattle.ix_bits.specs.declared.memory.Memory.{Memory}
use Rattle.ix_slots.proofs.names.put_custom.Goals as goal
use Rattle.ix_slots.proofs.names.put_custom.Goals.{in-Err-insert, in-Ok-insert}

pub returns-after-insert : goal.returns-after-insert
returns-after-insert c =
    let old = c.args.customs.now in
    let new = c.insert.new.self in
    let text : string_bytes c.in-Ok.key ≡ c.args.name.now = c.in-Ok.ensures.ok in
    let P : Result Unit Memory → Type 0 = λ r. OnOk r ((n : List ℕ) → get_by_text new n ≡ update bytes_eq (get_by_text old) c.args.name.now (Some c.args.custom) n) in
    elim c.match-insert.branch [
      | in-Err-insert w ↦ subst P (sym w.result-is) tt
      | in-Ok-insert w ↦ subst P (sym w.result-is)
          (λ n.
          btree_map_updates_text (string_bytes c.in-Ok.key) old new _ w.in-Ok-insert.ensures.updates n
          ∙ ap (λ (k : List ℕ). update bytes_eq (get_by_text old) k (Some c.args.custom) n) text)
    ]
