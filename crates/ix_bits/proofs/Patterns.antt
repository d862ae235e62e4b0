-- Patterns of a width, and the numbers that they stand for.
use Rattle.std.proofs.Common.{◌≡◌, ℕ, zero, suc, ◌+◌, ◌-◌, ◌*◌, ◌%◌, ◌^◌, ◌<◌, ◌≤◌, refl, ap, ◌∙◌, subst, ⊎_elim, arith, Bool, true, false, ℤ, pos, negsuc, ◌-ℤ◌, ◌≤ℤ◌, ◌<ℤ◌}
use Rattle.std.proofs.lemmas.Int.{ints}
use Rattle.std.proofs.lemmas.Nat.{pow_pos, pow-add}
use Rattle.std.proofs.lemmas.Bool.{cases_lt, lt-ltb, le-ltb}
use Rattle.std.proofs.Math.Nat.{mod-eq_of_lt}
use Rattle.ix_bits.specs.Types.{least_of, past_of, number_of}
use Rattle.ix_bits.proofs.Remainders.{rem_of, rem_is, rem_of_rem}

-- ---- powers of two
pub pow_half : (w : ℕ) → 1 ≤ w → 2 ^ w ≡ 2 ^ (w - 1) + 2 ^ (w - 1)
pow_half zero h = absurd (omega arith)
pow_half (suc w) h = let e = pow-add 2 w 1 in let d : suc w - 1 ≡ w = omega arith in let f : suc w ≡ w + 1 = omega arith in rw (d, f) (omega (arith, e))

pub pow_parts : (w v : ℕ) → w ≤ v → 2 ^ v ≡ 2 ^ w * 2 ^ (v - w)
pow_parts w v h = let e : v ≡ w + (v - w) = omega arith in ap (λ (n : ℕ). 2 ^ n) e ∙ pow-add 2 w (v - w)

pub pow_rises : (w v : ℕ) → w ≤ v → 2 ^ w ≤ 2 ^ v
pow_rises w v h = let e = pow_parts w v h in let p = pow_pos (v - w) in grind arith

-- ---- a narrower pattern is what is left of a wider one
pub pattern_narrows : (w v : ℕ) (z : ℤ) → w ≤ v → rem_of (2 ^ w) z ≡ rem_of (2 ^ v) z % 2 ^ w
pattern_narrows w v z h =
    let e = pow_parts w v h in
    let p : 0 < 2 ^ w * 2 ^ (v - w) = subst (λ (n : ℕ). 0 < n) e (pow_pos v) in
    rw e (rem_of_rem (2 ^ w) (2 ^ (v - w)) z (pow_pos w) p)

-- ---- numbers of a type
pub number_below : (w raw : ℕ) → raw < 2 ^ (w - 1) → number_of true w raw ≡ pos raw
number_below w raw h = rw (lt-ltb raw (2 ^ (w - 1)) h) refl

pub number_above : (w raw : ℕ) → 2 ^ (w - 1) ≤ raw → number_of true w raw ≡ pos raw -ℤ pos (2 ^ w)
number_above w raw h = rw (le-ltb raw (2 ^ (w - 1)) h) refl

-- the pattern of a pattern's number is that pattern
pub pattern_of_number : (s : Bool) (w raw : ℕ) → 1 ≤ w → raw < 2 ^ w → rem_of (2 ^ w) (number_of s w raw) ≡ raw
pattern_of_number false w raw h g = mod-eq_of_lt g
pattern_of_number true w raw h g =
    ⊎_elim
    (λ (below : raw < 2 ^ (w - 1)). rw (number_below w raw below) (mod-eq_of_lt g))
    (λ (above : 2 ^ (w - 1) ≤ raw). rw (number_above w raw above) (rem_is (2 ^ w) (pos raw -ℤ pos (2 ^ w)) raw 1 0 g (omega (arith, ints))))
    (cases_lt raw (2 ^ (w - 1)))

-- a number of the type is that of its pattern
pub number_of_pattern : (s : Bool) (w : ℕ) (n : ℤ) → 1 ≤ w → least_of s w ≤ℤ n → n <ℤ past_of s w → number_of s w (rem_of (2 ^ w) n) ≡ n
number_of_pattern false w (pos a) h low high = let g : a < 2 ^ w = omega (arith, ints) in ap pos (mod-eq_of_lt g)
number_of_pattern false w (negsuc a) h low high = absurd (omega (arith, ints))
number_of_pattern true w (pos a) h low high =
    let g : a < 2 ^ (w - 1) = omega (arith, ints) in
    let e : a % 2 ^ w ≡ a = mod-eq_of_lt (omega (arith, pow_half w h)) in
    rw e (number_below w a g)
number_of_pattern true w (negsuc a) h low high =
    let g : a < 2 ^ (w - 1) = omega (arith, ints) in
    let half = pow_half w h in
    let e : a % 2 ^ w ≡ a = mod-eq_of_lt (omega (arith, half)) in
    rw e (number_above w (2 ^ w - 1 - a) (omega (arith, half)) ∙ omega (arith, ints, half))

-- a pattern's number is one of the type's
pub number_from_least : (s : Bool) (w raw : ℕ) → 1 ≤ w → raw < 2 ^ w → least_of s w ≤ℤ number_of s w raw
number_from_least false w raw h g = omega (arith, ints)
number_from_least true w raw h g =
    let half = pow_half w h in
    ⊎_elim
    (λ (below : raw < 2 ^ (w - 1)). rw (number_below w raw below) (omega (arith, ints)))
    (λ (above : 2 ^ (w - 1) ≤ raw). rw (number_above w raw above) (omega (arith, ints, half)))
    (cases_lt raw (2 ^ (w - 1)))

pub number_below_past : (s : Bool) (w raw : ℕ) → 1 ≤ w → raw < 2 ^ w → number_of s w raw <ℤ past_of s w
number_below_past false w raw h g = omega (arith, ints)
number_below_past true w raw h g =
    let half = pow_half w h in
    ⊎_elim
    (λ (below : raw < 2 ^ (w - 1)). rw (number_below w raw below) (omega (arith, ints)))
    (λ (above : 2 ^ (w - 1) ≤ raw). rw (number_above w raw above) (omega (arith, ints, half)))
    (cases_lt raw (2 ^ (w - 1)))
