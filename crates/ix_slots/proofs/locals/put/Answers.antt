use Rattle.std.proofs.Common.{◌≡◌, ◌∙◌, ap, sym, subst, ℕ, List, Result, OnOk, Some, string_bytes}
use Rattle.std.proofs.lemmas.Map.Text.{btree_map_updates_text}
use Rattle.std.specs.BTreeMap.{get_by_text}
use Rattle.std.specs.Map.{update}
use Rattle.std.specs.Str.{bytes_eq}
use Rattle.ix_bits.specs.declared.memory.Memory.{Memory}
use Rattle.ix_slots.specs.declared.locals.Local.{Local}
use Rattle.ix_slots.specs.Kept.{IsKept}
use Rattle.ix_slots.proofs.Keeping.{kept_push}
use Rattle.ix_slots.proofs.locals.put.Goals as goal
use Rattle.ix_slots.proofs.locals.put.Goals.{in-Err-push-2, in-Ok-push-2}

pub returns-after-push-2-clause-kept : goal.returns-after-push-2-clause-kept
returns-after-push-2-clause-kept c =
    let items = c.args.items.now.items in
    let before = c.args.before.now.items in
    let places = c.args.places.now in
    let new = c.insert.new.self in
    let x : Local = record { name = c.args.name; place = c.args.place } in
    let text : string_bytes c.in-Ok.key ≡ c.args.name = c.in-Ok.ensures.ok ∙ c.as_str.ensures.text in
    let updates = λ (n : List ℕ).
    btree_map_updates_text (string_bytes c.in-Ok.key) places new _ c.in-Ok-insert.ensures.updates n
    ∙ ap (λ (k : List ℕ). update bytes_eq (get_by_text places) k (Some c.args.place) n) text in
    let old : c.in-Ok-insert.old ≡ get_by_text places c.args.name = c.in-Ok-insert.ensures.old ∙ ap (get_by_text places) text in
    let P : Result Unit Memory → Type 0 = λ r. OnOk r (IsKept items before places → IsKept c.push-in-Ok-push.new.self.items c.push.new.self.items new) in
    elim c.match-push-2.branch [
      | in-Err-push-2 w ↦ subst P (sym w.result-is) tt
      | in-Ok-push-2 w ↦ subst P (sym w.result-is)
          (kept_push items c.push-in-Ok-push.new.self.items before c.push.new.self.items places new x c.in-Ok-insert.old updates old w.in-Ok-push-2.ensures.items c.in-Ok-push.ensures.items)
    ]
