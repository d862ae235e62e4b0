use Rattle.std.proofs.Common.{◌≡◌, ◌∙◌, refl, sym, ℕ, zero, suc, List, [], ◌∷◌, map, get_or, Option, None, false, arith}
use Rattle.std.specs.Prelude.{is_some}
use Rattle.std.proofs.lemmas.List.{ext_get_or, length-map}
use Rattle.ix_bits.specs.declared.number.Bits.{Bits}
use Rattle.rv_tried.proofs.trial.marked.Goals as goal

marked_at : (xs : List (Option Bits)) (r : ℕ) → is_some (get_or xs r None) ≡ get_or (map is_some xs) r false
marked_at [] r = refl
marked_at (x ∷ xs) zero = refl
marked_at (x ∷ xs) (suc r) = marked_at xs r

pub returns : goal.returns
returns c =
    let customs = c.args.customs.now in
    let all = c.loop-number.all in
    let long = c.loop-number.invariant.0 in
    let sixteen = c.told-customs in
    let done = c.loop-number-test.false in
    let same = length-map customs is_some in
    ext_get_or false all (map is_some customs) (long ∙ sym (same ∙ sixteen))
    (λ r less. c.loop-number.invariant.1 r (omega (arith, less, long, done)) ∙ marked_at customs r)
