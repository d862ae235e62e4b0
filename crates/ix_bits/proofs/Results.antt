-- What an operation's masked pattern of 128 bits stands for in its result's type.
use Rattle.std.proofs.Common.{◌≡◌, ℕ, zero, suc, ◌+◌, ◌-◌, ◌*◌, ◌/◌, ◌%◌, ◌^◌, ◌<◌, ◌≤◌, ◌⊎◌, refl, sym, ap, ◌∙◌, ⊎_elim, arith, Bool, true, false, not, eqb, ℤ, pos, negsuc, ◌-ℤ◌, ◌*ℤ◌, ◌<ℤ◌, bit_or}
use Rattle.std.specs.Prelude.{int_lt}
use Rattle.std.specs.Ordering.{nat_cmp, int_cmp}
use Rattle.std.proofs.lemmas.Int.{ints}
use borrow.Author.Differences.{up, down}
use Rattle.std.proofs.lemmas.Nat.{pow_pos, or_shifted, or_comm, div_below, le-div}
use Rattle.std.proofs.lemmas.Nat.Bits.{ones_shr}
use Rattle.std.proofs.lemmas.Bool.{cases_lt, cases_order, lt-ltb, le-ltb, eq-eqb, ne_eqb}
use Rattle.std.proofs.Math.Nat.{mod-eq_of_lt}
use Rattle.ix_bits.specs.Types.{number_of, IsCongruent, IsWithin}
use Rattle.ix_bits.proofs.Remainders.{rem_of, rem_is, rem_splits, rem_below_lem}
use Rattle.ix_bits.proofs.Patterns.{pow_half, pow_parts, pow_rises, pattern_narrows, number_below, number_above, pattern_of_number, number_of_pattern, number_from_least, number_below_past}

-- the ones of a width
pub ones_of : (w : ℕ) → w ≤ 128 → (2 ^ 128 - 1) / 2 ^ (128 - w) ≡ 2 ^ w - 1
ones_of w h = let e : 128 - (128 - w) ≡ w = omega arith in ones_shr 128 (128 - w) (omega arith) ∙ ap (λ (n : ℕ). 2 ^ n - 1) e

pub within_value : (s : Bool) (w raw : ℕ) → 1 ≤ w → raw < 2 ^ w → IsWithin s w (number_of s w raw)
within_value s w raw h g = record { from_least = number_from_least s w raw h g; below_past = number_below_past s w raw h g }

-- the masked pattern of 128 bits stands for the number, where the type has it
pub masked : (s : Bool) (w raw : ℕ) (n : ℤ) → 1 ≤ w → w ≤ 128 → IsWithin s w n → raw ≡ rem_of (2 ^ 128) n % 2 ^ w → number_of s w raw ≡ n
masked s w raw n h g k e =
    ap (number_of s w) (e ∙ sym (pattern_narrows w 128 n g)) ∙ number_of_pattern s w n h k.from_least k.below_past

-- the sign's bit
pub sign_bit : (w raw : ℕ) → 1 ≤ w → raw < 2 ^ w → not (eqb (raw / 2 ^ (w - 1)) 0) ≡ int_lt (number_of true w raw) (pos 0)
sign_bit w raw h g =
    let half = pow_half w h in
    let p = pow_pos (w - 1) in
    ⊎_elim
    (λ (below : raw < 2 ^ (w - 1)).
    let e : raw / 2 ^ (w - 1) ≡ 0 = omega (arith, div_below raw (2 ^ (w - 1)) 1 p (omega arith)) in
    rw (e, number_below w raw below) (omega (arith, ints)))
    (λ (above : 2 ^ (w - 1) ≤ raw).
    let q = le-div 1 raw (2 ^ (w - 1)) p (omega arith) in
    let n : ¬ (raw / 2 ^ (w - 1) ≡ 0) = λ e. omega arith in
    let l : (pos raw -ℤ pos (2 ^ w)) <ℤ pos 0 = omega (arith, ints) in
    rw (ne_eqb (raw / 2 ^ (w - 1)) 0 n, number_above w raw above) (omega (arith, ints)))
    (cases_lt raw (2 ^ (w - 1)))

-- ---- the pattern of 128 bits
pub extended_up : (s : Bool) (w raw : ℕ) → 1 ≤ w → w ≤ 128 → raw < 2 ^ w → int_lt (number_of s w raw) (pos 0) ≡ true → bit_or raw (2 ^ 128 - 1 - (2 ^ w - 1)) ≡ rem_of (2 ^ 128) (number_of s w raw)
extended_up false w raw h m g neg = absurd (omega (arith, ints))
extended_up true w raw h m g neg =
    let half = pow_half w h in
    let whole = pow_parts w 128 m in
    let p = pow_pos w in
    let q = pow_pos (128 - w) in
    let high : 2 ^ 128 - 1 - (2 ^ w - 1) ≡ (2 ^ (128 - w) - 1) * 2 ^ w = high_ones (2 ^ w) (2 ^ (128 - w)) (2 ^ 128) whole p q in
    let joined : bit_or raw (2 ^ 128 - 1 - (2 ^ w - 1)) ≡ (2 ^ (128 - w) - 1) * 2 ^ w + raw = or_comm raw (2 ^ 128 - 1 - (2 ^ w - 1)) ∙ ap (λ (n : ℕ). bit_or n raw) high ∙ or_shifted (2 ^ (128 - w) - 1) w raw g in
    ⊎_elim
    (λ (below : raw < 2 ^ (w - 1)). let e = number_below w raw below in let f = rw e at neg in absurd (omega (arith, ints, f)))
    (λ (above : 2 ^ (w - 1) ≤ raw).
    let r = pow_rises w 128 m in
    joined ∙ rw (← high, number_above w raw above) (sym (rem_is (2 ^ 128) (pos raw -ℤ pos (2 ^ w)) (2 ^ 128 - 1 - (2 ^ w - 1) + raw) 1 0 (omega arith) (omega (arith, ints)))))
    (cases_lt raw (2 ^ (w - 1)))
  where
    high_ones : (m j v : ℕ) → v ≡ m * j → 0 < m → 0 < j → v - 1 - (m - 1) ≡ (j - 1) * m
    high_ones m zero v e h g = absurd (omega arith)
    high_ones m (suc j) v e h g = let f : suc j - 1 ≡ j = omega arith in rw f (omega arith)

-- ---- the order of two numbers of one sign is that of their patterns
pub order_of_positive : (a b m : ℕ) → a < m → b < m → nat_cmp (rem_of m (pos a)) (rem_of m (pos b)) ≡ int_cmp (pos a) (pos b)
order_of_positive a b m h g =
    let e : a % m ≡ a = mod-eq_of_lt h in
    let f : b % m ≡ b = mod-eq_of_lt g in
    rw (e, f) (⊎_elim
    (λ (same : a ≡ b). rw (same, le-ltb b b (omega arith), eq-eqb b b refl) refl)
    (λ (apart : (a < b) ⊎ (b < a)). ⊎_elim
    (λ (below : a < b). rw (lt-ltb a b below) refl)
    (λ (above : b < a). rw (le-ltb a b (omega arith), lt-ltb b a above, ne_eqb a b (λ e. omega arith)) refl)
    apart)
    (cases_order a b))

order_of_negative : (a b m : ℕ) → a < m → b < m → nat_cmp (rem_of m (negsuc a)) (rem_of m (negsuc b)) ≡ int_cmp (negsuc a) (negsuc b)
order_of_negative a b m h g =
    let e : a % m ≡ a = mod-eq_of_lt h in
    let f : b % m ≡ b = mod-eq_of_lt g in
    rw (e, f) (⊎_elim
    (λ (same : a ≡ b). rw (same, le-ltb b b (omega arith), le-ltb (m - 1 - b) (m - 1 - b) (omega arith), eq-eqb (m - 1 - b) (m - 1 - b) refl) refl)
    (λ (apart : (a < b) ⊎ (b < a)). ⊎_elim
    (λ (below : a < b). rw (le-ltb b a (omega arith), lt-ltb a b below, le-ltb (m - 1 - a) (m - 1 - b) (omega arith), ne_eqb (m - 1 - a) (m - 1 - b) (λ e. omega arith)) refl)
    (λ (above : b < a). rw (lt-ltb b a above, lt-ltb (m - 1 - a) (m - 1 - b) (omega arith)) refl)
    apart)
    (cases_order a b))

pub order_alike : (m : ℕ) (x y : ℤ) → up x < m → down x ≤ m → up y < m → down y ≤ m → int_lt x (pos 0) ≡ int_lt y (pos 0) → nat_cmp (rem_of m x) (rem_of m y) ≡ int_cmp x y
order_alike m (pos a) (pos b) h i j k e = order_of_positive a b m h j
order_alike m (pos a) (negsuc b) h i j k e = absurd (omega (arith, ints, e))
order_alike m (negsuc a) (pos b) h i j k e = absurd (omega (arith, ints, e))
order_alike m (negsuc a) (negsuc b) h i j k e = order_of_negative a b m i k

-- a number of a type goes into 128 bits
pub whole : (s : Bool) (w : ℕ) (n : ℤ) → w ≤ 128 → IsWithin s w n → (up n < 2 ^ 128) × (down n ≤ 2 ^ 128)
whole false w (pos a) h k = omega (arith, ints, pow_rises w 128 h)
whole false w (negsuc a) h k = absurd (omega (arith, ints))
whole true w (pos a) h k = omega (arith, ints, pow_rises (w - 1) 128 (omega arith))
whole true w (negsuc a) h k = omega (arith, ints, pow_rises (w - 1) 128 (omega arith))

scaled : (a b m : ℕ) → (pos a -ℤ pos b) *ℤ pos m ≡ pos (a * m) -ℤ pos (b * m)
scaled a b m =
    let d = pos a -ℤ pos b in
    let e : up d + b ≡ down d + a = omega (arith, ints) in
    let f : up d * m + b * m ≡ down d * m + a * m = omega (arith, ap (λ (n : ℕ). n * m) e) in
    omega (arith, ints, f)

-- a cast's pattern stands for the one number that fits
pub fits : (t : Bool) (v : ℕ) (n : ℤ) (raw : ℕ) → 1 ≤ v → v ≤ 128 → raw ≡ rem_of (2 ^ 128) n % 2 ^ v → IsWithin t v (number_of t v raw) × IsCongruent v (number_of t v raw) n
fits t v n raw h m e =
    let narrow : raw ≡ rem_of (2 ^ v) n = e ∙ sym (pattern_narrows v 128 n m) in
    let below : raw < 2 ^ v = rw narrow (rem_below_lem (2 ^ v) n (pow_pos v)) in
    (within_value t v raw h below, congruent t v raw n h below narrow)
  where
    -- the two numbers have one remainder
    congruent : (t : Bool) (v raw : ℕ) (n : ℤ) → 1 ≤ v → raw < 2 ^ v → raw ≡ rem_of (2 ^ v) n → IsCongruent v (number_of t v raw) n
    congruent t v raw n h g e =
        let p = rem_splits (2 ^ v) n (pow_pos v) in
        let q = rem_splits (2 ^ v) (number_of t v raw) (pow_pos v) in
        let same = pattern_of_number t v raw h g in
        (pos (p.0 + q.1) -ℤ pos (p.1 + q.0), rw (scaled (p.0 + q.1) (p.1 + q.0) (2 ^ v)) (omega (arith, ints, p.2, q.2, same, e)))
