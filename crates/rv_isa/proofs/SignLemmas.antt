-- Two's complement.
use Rattle.std.proofs.Common.{ℕ, ◌-◌, ◌*◌, ◌/◌, ◌%◌, ◌^◌, ◌<◌, ◌≤◌, ◌≡◌, pos, ◌-ℤ◌, nat_lt, if◌then◌else◌, unsigned_abs, arith, to_z, of_z, w32, ◌∙◌, refl, inl, inr, ℤ, true, ◌≤ℤ◌, ◌<ℤ◌}
use Rattle.std.proofs.lemmas.Int.{ints}
use Rattle.std.proofs.lemmas.Bool.{cond_above, cases_lt}
use Rattle.std.proofs.lemmas.Nat.{one_shl}
use Rattle.std.proofs.Math.Nat.{div-eq_of_lt}
use Rattle.std.proofs.Math.Pow.{pow_mono}
use Rattle.std.specs.Int.{cast_unsigned}
use Rattle.ix_bits.specs.Types.{IsWithin}
use Rattle.rv_isa.specs.Fields.{signed}

-- what the code computes where the sign bit is set
pub signed_negative : (width x : ℕ) → width ≤ 30 → x < 2 ^ width → (x / 2 ^ (width - 1) ≡ 0 → ⊥) →
    to_z w32 (of_z w32 (to_z w32 x -ℤ to_z w32 (1 * 2 ^ width % 2 ^ 32))) ≡ signed width x
signed_negative width x w h n =
    let e : 1 * 2 ^ width % 2 ^ 32 ≡ 2 ^ width = one_shl width 32 (omega arith) in
    let p : 2 ^ width ≤ 2 ^ 30 = pow_mono w in
    let q : 2 ^ (width - 1) ≤ x =
    elim (cases_lt x (2 ^ (width - 1))) [ inl below ↦ absurd (n (div-eq_of_lt below)) | inr above ↦ above ]
    in
    let same : to_z w32 (of_z w32 (to_z w32 x -ℤ to_z w32 (2 ^ width))) ≡ pos x -ℤ pos (2 ^ width) = omega (arith, ints) in
    rw e (same ∙ cond_above x (2 ^ (width - 1)) _ _ _ q refl)

-- what stands for a multiple of 2 is a multiple of 2
pub even-signed : (half x : ℕ) → half % 2 ≡ 0 → x < 2 * half → x % 2 ≡ 0 →
    unsigned_abs (if nat_lt x half then pos x else pos x -ℤ pos (2 * half)) % 2 ≡ 0
even-signed half x e h even = grind (arith, ints)

-- what stands for a multiple of 4096 is a multiple of 4096
pub page-signed : (half x : ℕ) → half % 4096 ≡ 0 → x < 2 * half → x % 4096 ≡ 0 →
    unsigned_abs (if nat_lt x half then pos x else pos x -ℤ pos (2 * half)) % 4096 ≡ 0
page-signed half x e h even = grind (arith, ints)

-- the low bits of what stands for x are x
pub low_signed_12 : (x : ℕ) → x < 4096 → cast_unsigned w32 (signed 12 x) % 4096 ≡ x
low_signed_12 x h = grind (arith, ints)

pub low_signed_13 : (x : ℕ) → x < 8192 → cast_unsigned w32 (signed 13 x) % 8192 ≡ x
low_signed_13 x h = grind (arith, ints)

pub low_signed_21 : (x : ℕ) → x < 2097152 → cast_unsigned w32 (signed 21 x) % 2097152 ≡ x
low_signed_21 x h = grind (arith, ints)

pub low_signed_32 : (x : ℕ) → x < 2 ^ 32 → cast_unsigned w32 (signed 32 x) ≡ x
low_signed_32 x h = grind (arith, ints)

-- the number that the low bits of a number within the width stand for is that number
pub signed_low_12 : (z : ℤ) → IsWithin true 12 z → signed 12 (cast_unsigned w32 z % 4096) ≡ z
signed_low_12 z h = grind (arith, ints)

pub signed_low_13 : (z : ℤ) → IsWithin true 13 z → signed 13 (cast_unsigned w32 z % 8192) ≡ z
signed_low_13 z h = grind (arith, ints)

pub signed_low_21 : (z : ℤ) → IsWithin true 21 z → signed 21 (cast_unsigned w32 z % 2097152) ≡ z
signed_low_21 z h = grind (arith, ints)

pub signed_low_32 : (z : ℤ) → IsWithin true 32 z → signed 32 (cast_unsigned w32 z) ≡ z
signed_low_32 z h = grind (arith, ints)

pub amount_low : (z : ℤ) → pos 0 ≤ℤ z → z <ℤ pos 32 → pos (cast_unsigned w32 z % 32) ≡ z
amount_low z h k = grind (arith, ints)

-- the pattern of a multiple of 2, or of 4096, is one
pub even-cast_unsigned : (z : ℤ) → IsWithin true 32 z → unsigned_abs z % 2 ≡ 0 → cast_unsigned w32 z % 2 ≡ 0
even-cast_unsigned z h e = grind (arith, ints)

pub page-cast_unsigned : (z : ℤ) → IsWithin true 32 z → unsigned_abs z % 4096 ≡ 0 → cast_unsigned w32 z % 4096 ≡ 0
page-cast_unsigned z h e = grind (arith, ints)

-- the pattern of a number has 32 bits
pub cast_unsigned-lt : (z : ℤ) → IsWithin true 32 z → cast_unsigned w32 z < 2 ^ 32
cast_unsigned-lt z h = grind (arith, ints)
