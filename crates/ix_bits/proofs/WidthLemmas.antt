-- The least width that holds a value.
use Rattle.std.proofs.Common.{◌≡◌, ℕ, ◌+◌, ◌-◌, ◌*◌, ◌^◌, ◌<◌, ◌≤◌, max, refl, ⊎_elim, arith}
use Rattle.std.specs.Int.Count.{count_leading_zeros, leading_of_zero}
use Rattle.std.proofs.lemmas.Nat.{leading_length, pow-add}
use Rattle.std.proofs.lemmas.Bool.{cases_lt}
use Rattle.ix_bits.specs.Widths.{least_width}
use Rattle.ix_bits.proofs.Patterns.{pow_rises}

pub width_of_zero : (v : ℕ) → v ≡ 0 → 1 ≡ least_width v
width_of_zero v e = rw (e, leading_of_zero 128) refl

pub width_holds : (v : ℕ) → v < 2 ^ 128 → v < 2 ^ (128 - count_leading_zeros 128 v)
width_holds v h =
    let l = leading_length 128 v h in
    let e : 128 - count_leading_zeros 128 v ≡ l.0 = omega (arith, l.1) in
    rw e l.2

-- no narrower width holds it
pub width_is_least : (v w : ℕ) → v < 2 ^ 128 → 1 ≤ w → v < 2 ^ w → max 1 (128 - count_leading_zeros 128 v) ≤ w
width_is_least v w h some g =
    let l = leading_length 128 v h in
    ⊎_elim
    (λ (less : w < l.0).
    let a = pow_rises (w + 1) l.0 (omega arith) in
    let b : 2 ^ (w + 1) ≡ 2 ^ w * 2 ^ 1 = pow-add 2 w 1 in
    absurd (omega (arith, a, b, l.3)))
    (λ (more : l.0 ≤ w). omega (arith, l.1))
    (cases_lt w l.0)
