use Rattle.std.proofs.Common.{◌≡◌, ◌∙◌, ap, sym, subst, refl, ℕ, suc, ◌-◌, ◌<◌, List, ◌∷◌, Some, drop, drop-cons, length, arith}
use Rattle.std.specs.BTreeMap.{get_by_text}
use Rattle.std.specs.Map.{update}
use Rattle.std.specs.Str.{bytes_eq}
use Rattle.ix_tree.specs.declared.extension.Table.{Table}
use Rattle.ix_slots.proofs.Finding.{TablesFrom, tables_more}
use Rattle.ix_slots.proofs.names.numbers_of.Goals as goal

pub loop-at-preserved : goal.loop-at-preserved
loop-at-preserved c =
    let xs = c.args.tables.now in
    let at = c.loop-at.at - 1 in
    let x = c.index-tables-at.result in
    let here : suc at ≡ c.loop-at.at = omega arith in
    let within : at < length xs = omega arith in
    let front : drop at xs ≡ x ∷ drop (suc at) xs = rw (drop-cons xs at x, ← c.index-tables-at.is) refl in
    let updates = λ (n : List ℕ).
    c.in_ok-put_number.ensures n ∙ ap (λ (k : List ℕ). update bytes_eq (get_by_text c.loop-at.numbers) k (Some at) n) c.as_str.ensures.text in
    let P : ℕ → Type 0 = λ k. TablesFrom k (drop k xs) c.loop-at.numbers in
    let Q : List Table → Type 0 = λ ys. TablesFrom at ys c.put_number.new.numbers in
    (omega arith, subst Q (sym front) (tables_more at x (drop (suc at) xs) c.loop-at.numbers c.put_number.new.numbers updates (subst P (sym here) c.loop-at.invariant.1)))
