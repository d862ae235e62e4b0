use Rattle.std.proofs.Common.{◌≡◌, sym, subst, refl, ℕ, suc, ◌+◌, ◌-◌, ◌<◌, List, ◌∷◌, drop, drop-cons, length, arith}
use Rattle.ix_tree.specs.declared.extension.Instruction.{Instruction}
use Rattle.rv_asm_text.proofs.Customs.{FormsFrom, forms_more}
use Rattle.rv_asm_text.proofs.custom.custom_forms.Goals as goal

pub loop-place-preserved : goal.loop-place-preserved
loop-place-preserved c =
    let xs = c.args.instructions.now in
    let place = c.loop-place.place - 1 in
    let x = c.index-instructions-place.result in
    let next : suc place ≡ place + 1 = omega arith in
    let here : c.loop-place.place ≡ place + 1 = omega arith in
    let within : place < length xs = omega (arith, c.loop-place.invariant.within) in
    let front : drop place xs ≡ x ∷ drop (suc place) xs = rw (drop-cons xs place x, ← c.index-instructions-place.is) refl in
    let P : ℕ → Type 0 = λ k. FormsFrom k (drop k xs) c.loop-place.forms in
    let Q : ℕ → Type 0 = λ k. FormsFrom place (x ∷ drop k xs) c.put.new.forms in
    let R : List Instruction → Type 0 = λ ys. FormsFrom place ys c.put.new.forms in
    record {
      within = omega (arith, within);
      forms = subst R (sym front) (subst Q (sym next) (forms_more place x (drop (place + 1) xs) c.loop-place.forms c.put.new.forms c.in_ok-put.ensures (subst P here c.loop-place.invariant.forms)));
    }
