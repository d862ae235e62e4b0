use Rattle.std.proofs.Common.{◌≡◌, ◌∙◌, ap, sym, subst, refl, ℕ, suc, ◌-◌, ◌<◌, List, ◌∷◌, Some, drop, drop-cons, length, arith}
use Rattle.std.specs.BTreeMap.{get_by_text}
use Rattle.std.specs.Map.{update}
use Rattle.std.specs.Str.{bytes_eq}
use Rattle.ix_tree.specs.declared.extension.Register.{Register}
use Rattle.ix_slots.specs.declared.names.Custom.{Custom}
use Rattle.ix_slots.proofs.Finding.{CustomsFrom, customs_more}
use Rattle.ix_slots.proofs.names.customs_of.Goals as goal

pub loop-at-preserved : goal.loop-at-preserved
loop-at-preserved c =
    let xs = c.args.registers.now in
    let at = c.loop-at.at - 1 in
    let x = c.index-registers-at.result in
    let here : suc at ≡ c.loop-at.at = omega arith in
    let within : at < length xs = omega arith in
    let front : drop at xs ≡ x ∷ drop (suc at) xs = rw (drop-cons xs at x, ← c.index-registers-at.is) refl in
    let updates = λ (n : List ℕ).
    c.in_ok-put_custom.ensures n ∙ ap (λ (k : List ℕ). update bytes_eq (get_by_text c.loop-at.customs) k (Some (let v : Custom = record { number = at; ty = x.ty } in v)) n) c.as_str.ensures.text in
    let P : ℕ → Type 0 = λ k. CustomsFrom k (drop k xs) c.loop-at.customs in
    let Q : List Register → Type 0 = λ ys. CustomsFrom at ys c.put_custom.new.customs in
    (omega arith, subst Q (sym front) (customs_more at x (drop (suc at) xs) c.loop-at.customs c.put_custom.new.customs updates (subst P (sym here) c.loop-at.invariant.1)))
