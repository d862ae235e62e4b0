-- Each operation on patterns is that on their numbers.
use Rattle.std.proofs.Common.{◌≡◌, ℕ, zero, suc, ◌+◌, ◌-◌, ◌*◌, ◌/◌, ◌%◌, ◌^◌, ◌<◌, ◌≤◌, refl, sym, ap, ◌∙◌, ⊎_elim, arith, Bool, true, false, not, cond, eqb, ℤ, pos, negsuc, neg_ℤ, ◌-ℤ◌, ◌*ℤ◌, ◌<ℤ◌, bit_and, bit_or, bit_xor}
use Rattle.std.specs.Prelude.{unsigned_abs}
use Rattle.std.proofs.lemmas.Int.{ints}
use Rattle.std.proofs.lemmas.Nat.{pow_pos, and_mod, or_mod, xor_mod, mul-mod_second, div-add-mod', mod_below}
use borrow.Author.Differences.{neg_is}
use Rattle.ix_bits.specs.declared.number.Ty.{Ty}
use Rattle.ix_bits.specs.Types.{number_of}
use Rattle.ix_bits.specs.Operators.{pattern_of, value_of, is_true, truth}
use Rattle.ix_bits.proofs.Remainders.{rem_of, rem_is, rem_splits, rem_product}
use Rattle.ix_bits.proofs.Patterns.{pow_parts, pattern_narrows, pattern_of_number, number_below, number_above}
use Rattle.std.proofs.lemmas.Bool.{cases_lt, lt-ltb, le-ltb, ne_eqb}

-- `-` at 128 bits, from what `wrapping_neg` says
pub negated : (m : ℕ) (x : ℤ) (r : ℕ) → r < m → (r + rem_of m x) % m ≡ 0 → r ≡ rem_of m (neg_ℤ x)
negated m x r h e =
    let s = rem_splits m x (omega arith) in
    let d = div-add-mod' (r + rem_of m x) m in
    sym (rem_is m (neg_ℤ x) r (s.1 + (r + rem_of m x) / m) s.0 h (omega (arith, s.2, d, e, neg_is x)))

-- `~` at 128 bits, cut to the width
pub turned : (s : Bool) (w raw : ℕ) → 1 ≤ w → w ≤ 128 → raw < 2 ^ w → (2 ^ 128 - 1 - raw) % 2 ^ w ≡ pattern_of w (pos 0 -ℤ pos 1 -ℤ number_of s w raw)
turned s w raw h le g =
    let m = 2 ^ w in
    let j = 2 ^ (128 - w) in
    let x = number_of s w raw in
    let p = rem_splits m x (pow_pos w) in
    let same = pattern_of_number s w raw h g in
    let parts = pow_parts w 128 le in
    let n = 2 ^ 128 - 1 - raw in
    let d = div-add-mod' n m in
    let f : raw < 2 ^ 128 = rw parts (within raw m j g (pow_pos (128 - w))) in
    sym (rem_is m (pos 0 -ℤ pos 1 -ℤ x) (n % m) (j + p.1) (n / m + p.0) (mod_below n m (pow_pos w))
    (omega (arith, ints, p.2, same, parts, d, f)))
  where
    within : (raw m j : ℕ) → raw < m → 0 < j → raw < m * j
    within raw m zero h g = absurd (omega arith)
    within raw m (suc j) h g = omega arith

-- bit operations at 128 bits, cut to the width
pub and_cut : (w : ℕ) (x y : ℤ) → w ≤ 128 → bit_and (rem_of (2 ^ 128) x) (rem_of (2 ^ 128) y) % 2 ^ w ≡ bit_and (pattern_of w x) (pattern_of w y)
and_cut w x y h = and_mod (rem_of (2 ^ 128) x) (rem_of (2 ^ 128) y) w ∙ rw (← pattern_narrows w 128 x h, ← pattern_narrows w 128 y h) refl

pub or_cut : (w : ℕ) (x y : ℤ) → w ≤ 128 → bit_or (rem_of (2 ^ 128) x) (rem_of (2 ^ 128) y) % 2 ^ w ≡ bit_or (pattern_of w x) (pattern_of w y)
or_cut w x y h = or_mod (rem_of (2 ^ 128) x) (rem_of (2 ^ 128) y) w ∙ rw (← pattern_narrows w 128 x h, ← pattern_narrows w 128 y h) refl

pub xor_cut : (w : ℕ) (x y : ℤ) → w ≤ 128 → bit_xor (rem_of (2 ^ 128) x) (rem_of (2 ^ 128) y) % 2 ^ w ≡ bit_xor (pattern_of w x) (pattern_of w y)
xor_cut w x y h = xor_mod (rem_of (2 ^ 128) x) (rem_of (2 ^ 128) y) w ∙ rw (← pattern_narrows w 128 x h, ← pattern_narrows w 128 y h) refl

-- a pattern moved up is that of the product by a power of two
pub shifted : (s : Bool) (w raw k : ℕ) → 1 ≤ w → raw < 2 ^ w → raw * 2 ^ k % 2 ^ w ≡ pattern_of w (number_of s w raw *ℤ pos (2 ^ k))
shifted s w raw k h g =
    let e = rem_product (2 ^ w) (number_of s w raw) (pos (2 ^ k)) (pow_pos w) in
    sym (e ∙ rw (pattern_of_number s w raw h g) (mul-mod_second raw (2 ^ k) (2 ^ w)))

true_positive : (n : ℕ) → not (eqb n 0) ≡ is_true (pos n)
true_positive zero = refl
true_positive (suc n) = rw (ne_eqb (suc n) 0 (λ e. omega arith), le-ltb (suc n) 0 (omega arith), lt-ltb 0 (suc n) (omega arith)) refl

true_negative : (z : ℤ) → z <ℤ pos 0 → true ≡ is_true z
true_negative (pos n) h = absurd (omega (arith, ints))
true_negative (negsuc n) h = refl

-- a number is 0 where its pattern is
pub true_where : (s : Bool) (w raw : ℕ) → 1 ≤ w → raw < 2 ^ w → not (eqb raw 0) ≡ is_true (number_of s w raw)
true_where false w raw h g = true_positive raw
true_where true w raw h g =
    ⊎_elim
    (λ (below : raw < 2 ^ (w - 1)). rw (number_below w raw below) (true_positive raw))
    (λ (above : 2 ^ (w - 1) ≤ raw).
    let p = pow_pos (w - 1) in
    rw (number_above w raw above, ne_eqb raw 0 (λ e. omega arith)) (true_negative (pos raw -ℤ pos (2 ^ w)) (omega (arith, ints))))
    (cases_lt raw (2 ^ (w - 1)))

pub truth_of : (t u : Bool) (raw : ℕ) → raw ≡ cond t 1 0 → t ≡ u → pos raw ≡ truth u
truth_of true u raw e f = rw (← f, e) refl
truth_of false u raw e f = rw (← f, e) refl

-- a shift's distance is the right pattern, which is not signed
pub distance : (s : Bool) (w raw : ℕ) → s ≡ false → unsigned_abs (number_of s w raw) ≡ raw
distance s w raw e = rw e refl

-- the left pattern above the right one
pub concatenated : (a b : Ty) (x y raw : ℕ) → x < 2 ^ a.width → y < 2 ^ b.width → raw ≡ x * 2 ^ b.width + y
    → pos raw ≡ pos (pattern_of a.width (value_of a x) * 2 ^ b.width + pattern_of b.width (value_of b y))
concatenated a b x y raw h g e =
    rw (pattern_of_number a.signed a.width x a.some_width h, pattern_of_number b.signed b.width y b.some_width g) (ap pos e)
