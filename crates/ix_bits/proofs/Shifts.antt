-- Shifts of patterns.
use Rattle.std.proofs.Common.{◌≡◌, ℕ, ◌+◌, ◌-◌, ◌*◌, ◌/◌, ◌%◌, ◌^◌, ◌<◌, ◌≤◌, refl, sym, ◌∙◌, arith, Bool, true, false, ℤ, pos, negsuc, bit_or}
use Rattle.std.specs.Int.{int_shr}
use Rattle.std.specs.Prelude.{int_lt}
use Rattle.std.proofs.lemmas.Nat.{pow_pos, shr_le, or_shifted, div_below, shl_below, mul-add-lt, pow-add}
use Rattle.std.proofs.lemmas.Bool.{le-ltb, both_ways}
use Rattle.std.proofs.Math.Nat.{mod-eq_of_lt}
use Rattle.ix_bits.specs.Types.{number_of, IsWithin}
use Rattle.ix_bits.proofs.Remainders.{rem_of, rem_is}
use Rattle.ix_bits.proofs.Patterns.{pow_parts, pow_rises, pattern_narrows}
use Rattle.ix_bits.proofs.Ranges.{holds_shift}
use Rattle.ix_bits.proofs.Results.{masked, whole}

-- bits past 128 are past the width too
pub shl_low : (n k w : ℕ) → w ≤ 128 → n * 2 ^ k % 2 ^ 128 % 2 ^ w ≡ n * 2 ^ k % 2 ^ w
shl_low n k w h = sym (pattern_narrows w 128 (pos (n * 2 ^ k)) h)

-- a shift by the width or more leaves nothing
pub shl_out : (n k w : ℕ) → w ≤ k → 0 ≡ n * 2 ^ k % 2 ^ w
shl_out n k w h =
    let e = pow_parts w k h in
    sym (rem_is (2 ^ w) (pos (n * 2 ^ k)) 0 0 (n * 2 ^ (k - w)) (pow_pos w) (rw e (omega arith)))

pub shr_out : (n k : ℕ) → n < 2 ^ 128 → 128 ≤ k → 0 ≡ n / 2 ^ k
shr_out n k h g =
    let r = pow_rises 128 k g in
    omega (arith, div_below n (2 ^ k) 1 (pow_pos k) (omega arith))

-- moving the magnitude of a pattern down moves its number down
pub shr_pattern : (s : Bool) (w : ℕ) (z : ℤ) (k raw : ℕ) → 1 ≤ w → w ≤ 128 → IsWithin s w z
    → (int_lt z (pos 0) ≡ true → raw ≡ (2 ^ 128 - 1 - (2 ^ 128 - 1 - rem_of (2 ^ 128) z) / 2 ^ k) % 2 ^ w)
    → (int_lt z (pos 0) ≡ false → raw ≡ rem_of (2 ^ 128) z / 2 ^ k % 2 ^ w)
    → number_of s w raw ≡ int_shr z k
shr_pattern s w (pos n) k raw h m p neg nonneg =
    let r = nonneg (le-ltb n 0 (omega arith)) in
    let n128 = whole s w (pos n) m p in
    let e : n % 2 ^ 128 ≡ n = mod-eq_of_lt n128.0 in
    let f : n / 2 ^ k % 2 ^ 128 ≡ n / 2 ^ k = mod-eq_of_lt (omega (arith, shr_le n k, n128.0)) in
    masked s w raw (int_shr (pos n) k) h m (holds_shift s w (pos n) k p) (r ∙ rw (e, f) refl)
shr_pattern s w (negsuc n) k raw h m p neg nonneg =
    let r = neg refl in
    let n128 = whole s w (negsuc n) m p in
    let below : n < 2 ^ 128 = omega (arith, n128.1) in
    let e : n % 2 ^ 128 ≡ n = mod-eq_of_lt below in
    let f : n / 2 ^ k % 2 ^ 128 ≡ n / 2 ^ k = mod-eq_of_lt (omega (arith, shr_le n k, below)) in
    let g : 2 ^ 128 - 1 - (2 ^ 128 - 1 - n % 2 ^ 128) ≡ n = omega (arith, e, below) in
    masked s w raw (int_shr (negsuc n) k) h m (holds_shift s w (negsuc n) k p) (r ∙ rw (g, f) refl)

pub shr_negative : (s : Bool) (w : ℕ) (z : ℤ) (k raw : ℕ) → 1 ≤ w → w ≤ 128 → IsWithin s w z → int_lt z (pos 0) ≡ true → raw ≡ (2 ^ 128 - 1 - (2 ^ 128 - 1 - rem_of (2 ^ 128) z) / 2 ^ k) % 2 ^ w → number_of s w raw ≡ int_shr z k
shr_negative s w z k raw h m p sign e = shr_pattern s w z k raw h m p (λ _. e) (λ n. absurd (both_ways (int_lt z (pos 0)) n sign))

pub shr_positive : (s : Bool) (w : ℕ) (z : ℤ) (k raw : ℕ) → 1 ≤ w → w ≤ 128 → IsWithin s w z → int_lt z (pos 0) ≡ false → raw ≡ rem_of (2 ^ 128) z / 2 ^ k % 2 ^ w → number_of s w raw ≡ int_shr z k
shr_positive s w z k raw h m p sign e = shr_pattern s w z k raw h m p (λ n. absurd (both_ways (int_lt z (pos 0)) sign n)) (λ _. e)

-- a left pattern above a right one
pub joined_bits : (a k b : ℕ) (w : ℕ) → b < 2 ^ k → a < 2 ^ w → w + k ≤ 128 → bit_or (a * 2 ^ k % 2 ^ 128) b ≡ a * 2 ^ k + b
joined_bits a k b w h g le =
    let r = shl_below a w k g in
    let s = pow_rises (w + k) 128 le in
    let e : a * 2 ^ k % 2 ^ 128 ≡ a * 2 ^ k = mod-eq_of_lt (omega (arith, r, s)) in
    rw e (or_shifted a k b h)

pub joined_below : (a k b w : ℕ) → b < 2 ^ k → a < 2 ^ w → a * 2 ^ k + b < 2 ^ (w + k)
joined_below a k b w h g =
    let e = pow-add 2 w k in
    let m = mul-add-lt a (2 ^ k) b (2 ^ w) g h in
    rw e (omega (arith, m))
