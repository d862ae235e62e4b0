use Rattle.std.proofs.Common.{◌≡◌, ◌∙◌, ap, sym, subst, ℕ, List, true, cond, Result, OnOk, string_bytes}
use Rattle.std.proofs.lemmas.Map.Text.{btree_set_updates_text}
use Rattle.std.specs.BTreeSet.{contains_text}
use Rattle.std.specs.Str.{bytes_eq}
use Rattle.ix_bits.specs.declared.memory.Memory.{Memory}
use Rattle.ix_typing.specs.Names.{is_listed}
use Rattle.ix_typing.proofs.Keeping.{listed_push}
use Rattle.ix_typing.proofs.taken.put.Goals as goal
use Rattle.ix_typing.proofs.taken.put.Goals.{in-Err-push, in-Ok-push}

pub returns-after-push-clause-kept : goal.returns-after-push-clause-kept
returns-after-push-clause-kept c =
    let items = c.args.items.now.items in
    let texts = c.args.texts.now in
    let new = c.insert.new.self in
    let text : string_bytes c.in-Ok.text ≡ c.args.name = c.in-Ok.ensures.ok ∙ c.as_str.ensures.text in
    let updates = λ (n : List ℕ).
    btree_set_updates_text (string_bytes c.in-Ok.text) texts new _ c.in-Ok-insert.ensures.updates n
    ∙ ap (λ (k : List ℕ). cond (bytes_eq k n) true (contains_text texts n)) text in
    let P : Result Unit Memory → Type 0 = λ r. OnOk r (((n : List ℕ) → contains_text texts n ≡ is_listed items n) → (n : List ℕ) → contains_text new n ≡ is_listed c.push.new.self.items n) in
    elim c.match-push.branch [
      | in-Err-push w ↦ subst P (sym w.result-is) tt
      | in-Ok-push w ↦ subst P (sym w.result-is) (listed_push items c.push.new.self.items c.args.name (contains_text texts) (contains_text new) updates w.in-Ok-push.ensures.items)
    ]
