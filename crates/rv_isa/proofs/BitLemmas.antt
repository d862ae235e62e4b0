-- Bits of a word: masks, and fields joined by `|`.
use Rattle.std.proofs.Common.{ℕ, ◌+◌, ◌-◌, ◌*◌, ◌/◌, ◌%◌, ◌^◌, ◌<◌, ◌≡◌, bit_and, bit_or, arith}
use Rattle.std.proofs.lemmas.Nat.{and_mask, one_shl, or_shifted}

-- `(word >> low) & ((1 << count) - 1)`
pub and_ones : (word low count : ℕ) → count < 32 →
    bit_and (word / 2 ^ low) (1 * 2 ^ count % 2 ^ 32 - 1) ≡ word / 2 ^ low % 2 ^ count
and_ones word low count h = rw (one_shl count 32 h) (and_mask (word / 2 ^ low) count)

-- `(high << k) | low`, where the bits of low are below those of high
pub or_above : (x high k low : ℕ) → x ≡ high * 2 ^ k → low < 2 ^ k → bit_or x low ≡ x + low
or_above x high k low e h = rw e (or_shifted high k low h)

-- the four parts of a branch's offset
pub branch_parts : (a b c d : ℕ) → a < 2 → b < 2 → c < 64 → d < 16 →
    bit_or (bit_or (bit_or (a * 4096 % 4294967296) (b * 2048 % 4294967296)) (c * 32 % 4294967296)) (d * 2 % 4294967296)
    ≡ a * 4096 + b * 2048 + c * 32 + d * 2
branch_parts a b c d p q r s =
    let e1 : a * 4096 % 4294967296 ≡ a * 4096 = omega arith in
    let e2 : b * 2048 % 4294967296 ≡ b * 2048 = omega arith in
    let e3 : c * 32 % 4294967296 ≡ c * 32 = omega arith in
    let e4 : d * 2 % 4294967296 ≡ d * 2 = omega arith in
    let f2 : bit_or (a * 4096) (b * 2048) ≡ a * 4096 + b * 2048 =
    or_above (a * 4096) a 12 (b * 2048) (omega arith) (omega arith)
    in
    let f3 : bit_or (a * 4096 + b * 2048) (c * 32) ≡ a * 4096 + b * 2048 + c * 32 =
    or_above (a * 4096 + b * 2048) (a * 2 + b) 11 (c * 32) (omega arith) (omega arith)
    in
    let f4 : bit_or (a * 4096 + b * 2048 + c * 32) (d * 2) ≡ a * 4096 + b * 2048 + c * 32 + d * 2 =
    or_above (a * 4096 + b * 2048 + c * 32) (a * 128 + b * 64 + c) 5 (d * 2) (omega arith) (omega arith)
    in
    rw (e1, e2, e3, e4, f2, f3) f4

-- the four parts of a jump's offset
pub jump_parts : (a b c d : ℕ) → a < 2 → b < 256 → c < 2 → d < 1024 →
    bit_or (bit_or (bit_or (a * 1048576 % 4294967296) (b * 4096 % 4294967296)) (c * 2048 % 4294967296)) (d * 2 % 4294967296)
    ≡ a * 1048576 + b * 4096 + c * 2048 + d * 2
jump_parts a b c d p q r s =
    let e1 : a * 1048576 % 4294967296 ≡ a * 1048576 = omega arith in
    let e2 : b * 4096 % 4294967296 ≡ b * 4096 = omega arith in
    let e3 : c * 2048 % 4294967296 ≡ c * 2048 = omega arith in
    let e4 : d * 2 % 4294967296 ≡ d * 2 = omega arith in
    let f2 : bit_or (a * 1048576) (b * 4096) ≡ a * 1048576 + b * 4096 =
    or_above (a * 1048576) a 20 (b * 4096) (omega arith) (omega arith)
    in
    let f3 : bit_or (a * 1048576 + b * 4096) (c * 2048) ≡ a * 1048576 + b * 4096 + c * 2048 =
    or_above (a * 1048576 + b * 4096) (a * 256 + b) 12 (c * 2048) (omega arith) (omega arith)
    in
    let f4 : bit_or (a * 1048576 + b * 4096 + c * 2048) (d * 2) ≡ a * 1048576 + b * 4096 + c * 2048 + d * 2 =
    or_above (a * 1048576 + b * 4096 + c * 2048) (a * 512 + b * 2 + c) 11 (d * 2) (omega arith) (omega arith)
    in
    rw (e1, e2, e3, e4, f2, f3) f4
