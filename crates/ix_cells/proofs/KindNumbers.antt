-- What each kind makes of patterns is the pattern of its number.
use Rattle.std.proofs.Common.{◌≡◌, ℕ, ◌+◌, ◌-◌, ◌*◌, ◌%◌, ◌^◌, ◌<◌, ◌≤◌, Bool, true, false, not, arith, refl, ap, sym, ◌∙◌, subst}
use Rattle.std.specs.Prelude.{ℤ, pos, neg_ℤ, ◌-ℤ◌, ◌+ℤ◌, ◌*ℤ◌}
use Rattle.std.proofs.Math.Nat.{mod-eq_of_lt}
use Rattle.std.proofs.lemmas.Int.{ints}
use Rattle.std.proofs.lemmas.Nat.{pow_pos}
use Rattle.ix_bits.specs.declared.number.Ty.{Ty}
use Rattle.ix_bits.specs.Types.{number_of}
use Rattle.ix_bits.specs.Operators.{pattern_of, value_of, truth}
use Rattle.ix_bits.proofs.Remainders.{rem_is, rem_splits, rem_sum, rem_difference, rem_product, rem_below_lem}
use Rattle.ix_bits.proofs.Patterns.{pattern_of_number}
use Rattle.ix_net.specs.Forms.{bit_of}

pub pattern_below : (w : ℕ) (x : ℤ) → pattern_of w x < 2 ^ w
pattern_below w x = rem_below_lem (2 ^ w) x (pow_pos w)

pub add_is : (w : ℕ) (x y : ℤ) → (pattern_of w x + pattern_of w y) % 2 ^ w ≡ pattern_of w (x +ℤ y)
add_is w x y = sym (rem_sum (2 ^ w) x y (pow_pos w))

pub sub_is : (w : ℕ) (x y : ℤ) → (pattern_of w x + (2 ^ w - pattern_of w y)) % 2 ^ w ≡ pattern_of w (x -ℤ y)
sub_is w x y = sym (rem_difference (2 ^ w) x y (pow_pos w))

pub mul_is : (w : ℕ) (x y : ℤ) → (pattern_of w x * pattern_of w y) % 2 ^ w ≡ pattern_of w (x *ℤ y)
mul_is w x y = sym (rem_product (2 ^ w) x y (pow_pos w))

-- an operation on bits, whose result is within the width
pub bits_are :
    (f : ℕ → ℕ → ℕ) (s : Bool) (w v : ℕ) (x y : ℤ) → f (pattern_of w x) (pattern_of w y) < 2 ^ w → w ≡ v → 1 ≤ w
    → f (pattern_of w x) (pattern_of w y) ≡ pattern_of w (number_of s v (f (pattern_of v x) (pattern_of v y)))
bits_are f s w v x y l e some =
    let P : ℕ → Type 0 = λ u. f (pattern_of w x) (pattern_of w y) ≡ pattern_of w (number_of s u (f (pattern_of u x) (pattern_of u y))) in
    subst P e (sym (pattern_of_number s w (f (pattern_of w x) (pattern_of w y)) some l))

-- a number that is fitted to a type has the pattern that it had
pub fit_is : (ty : Ty) (n : ℤ) → pattern_of ty.width n ≡ pattern_of ty.width (value_of ty (pattern_of ty.width n))
fit_is ty n = sym (pattern_of_number ty.signed ty.width (pattern_of ty.width n) ty.some_width (pattern_below ty.width n))

pub not_is : (s : Bool) (w raw : ℕ) → 1 ≤ w → raw < 2 ^ w → 2 ^ w - 1 - raw ≡ pattern_of w (pos 0 -ℤ pos 1 -ℤ number_of s w raw)
not_is s w raw some l =
    let p = rem_splits (2 ^ w) (number_of s w raw) (pow_pos w) in
    let same = pattern_of_number s w raw some l in
    sym (rem_is (2 ^ w) (pos 0 -ℤ pos 1 -ℤ number_of s w raw) (2 ^ w - 1 - raw) (1 + p.1) p.0 (omega arith) (omega (arith, ints, p.2, same)))

pub neg_is : (w : ℕ) (x : ℤ) → (0 + (2 ^ w - pattern_of w x)) % 2 ^ w ≡ pattern_of w (neg_ℤ x)
neg_is w x =
    let e : pos 0 -ℤ x ≡ neg_ℤ x = omega (arith, ints) in
    let z : pattern_of w (pos 0) ≡ 0 = mod-eq_of_lt (pow_pos w) in
    ap (λ n. (n + (2 ^ w - pattern_of w x)) % 2 ^ w) (sym z) ∙ sub_is w (pos 0) x ∙ ap (pattern_of w) e

pub truth_is : (t : Bool) → bit_of t ≡ pattern_of 1 (truth t)
truth_is true = refl
truth_is false = refl

pub bit_not : (t : Bool) → 2 ^ 1 - 1 - bit_of t ≡ bit_of (not t)
bit_not true = refl
bit_not false = refl
