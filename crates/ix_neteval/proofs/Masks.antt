-- Masks of a width within 128 bits.
use Rattle.std.proofs.Common.{◌≡◌, ℕ, ◌+◌, ◌-◌, ◌*◌, ◌%◌, ◌^◌, ◌<◌, ◌≤◌, bit_and, bit_or, arith, ap, ◌∙◌, mod-eq_of_lt}
use Rattle.std.proofs.Math.Pow.{mod-mod-pow}
use Rattle.std.proofs.Math.Nat.{pow-le-pow_right}
use Rattle.std.proofs.lemmas.Nat.{and_mask, or_shifted, shl_below}

pub masked : (n m w : ℕ) → m ≡ 2 ^ w - 1 → bit_and n m ≡ n % 2 ^ w
masked n m w e = ap (bit_and n) e ∙ and_mask n w

pub masked_wide : (n m w : ℕ) → w ≤ 128 → m ≡ 2 ^ w - 1 → bit_and (n % 2 ^ 128) m ≡ n % 2 ^ w
masked_wide n m w l e =
    let split : 128 ≡ 128 - w + w = omega arith in
    masked (n % 2 ^ 128) m w e ∙ ap (λ k. n % 2 ^ k % 2 ^ w) split ∙ mod-mod-pow n (128 - w) w

pub joined : (high low w : ℕ) → high * 2 ^ w < 2 ^ 128 → low < 2 ^ w → bit_or (high * 2 ^ w % 2 ^ 128) low ≡ high * 2 ^ w + low
joined high low w l h = ap (λ n. bit_or n low) (mod-eq_of_lt l) ∙ or_shifted high w low h

-- a pattern moved up by v bits stays below 128 bits
pub moved_fits : (x u v w : ℕ) → x < 2 ^ u → w ≡ u + v → w ≤ 128 → x * 2 ^ v < 2 ^ 128
moved_fits x u v w l e most =
    let below : x * 2 ^ v < 2 ^ (u + v) = shl_below x u v l in
    let top : 2 ^ (u + v) ≤ 2 ^ 128 = pow-le-pow_right {n = 2} (omega arith) {i = u + v} {j = 128} (omega arith) in
    omega arith
