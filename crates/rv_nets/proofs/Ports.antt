-- A port is an input, or an output behind the inputs.
use Rattle.std.proofs.Common.{◌≡◌, refl, ap, ◌∙◌, ℕ, zero, suc, ◌-◌, ◌<◌, ◌≤◌, List, [], ◌∷◌, ◌++◌, length, Some, arith}
use Rattle.std.specs.Prelude.{slice_get}
use Rattle.ix_net.specs.declared.netlist.Port.{Port}

pub in_first : (xs ys : List Port) (k : ℕ) (p : Port) → k < length xs → slice_get (xs ++ ys) k ≡ Some p → slice_get xs k ≡ Some p
in_first [] ys k p lt e = absurd (omega (arith, lt))
in_first (x ∷ xs) ys zero p lt e = e
in_first (x ∷ xs) ys (suc k) p lt e = in_first xs ys k p (omega (arith, lt)) e

pub in_second : (xs ys : List Port) (k : ℕ) (p : Port) → length xs ≤ k → slice_get (xs ++ ys) k ≡ Some p → slice_get ys (k - length xs) ≡ Some p
in_second [] ys k p le e = (let z : k - 0 ≡ k = omega arith in ap (λ i. slice_get ys i) z ∙ e)
in_second (x ∷ xs) ys zero p le e = absurd (omega (arith, le))
in_second (x ∷ xs) ys (suc k) p le e = (let z : suc k - suc (length xs) ≡ k - length xs = omega arith in ap (λ i. slice_get ys i) z ∙ in_second xs ys k p (omega (arith, le)) e)
