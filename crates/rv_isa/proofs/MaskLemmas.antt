-- What the masks of the base table keep of a word.
use Rattle.std.proofs.Common.{ℕ, ◌+◌, ◌*◌, ◌/◌, ◌%◌, ◌^◌, ◌<◌, ◌≡◌, bit_and, bit_xor, arith, ap, min}
use Rattle.std.proofs.lemmas.Nat.{and_mask, and_block}
use Rattle.std.proofs.lemmas.Nat.Bits.{same_from_bits, bit_at_and, bit_at_xor, bit_at-zero, bit_at-lt}
use Rattle.std.specs.Int.{bit_at}

-- the opcode
pub and_opcode : (w : ℕ) → bit_and w 0x7f ≡ w % 128
and_opcode w = and_mask w 7

-- opcode and funct3
pub and_function : (w : ℕ) → bit_and w 0x707f ≡ w / 4096 % 8 * 4096 + w % 128
and_function w =
    let split : w ≡ w / 4096 * 2 ^ 12 + w % 4096 = omega arith in
    let block : bit_and (w / 4096 * 2 ^ 12 + w % 4096) (7 * 2 ^ 12 + 127) ≡ bit_and (w / 4096) 7 * 2 ^ 12 + bit_and (w % 4096) 127 =
    and_block 12 (w / 4096) 7 (w % 4096) 127 (omega arith) (omega arith)
    in
    let high : bit_and (w / 4096) 7 ≡ w / 4096 % 8 = and_mask (w / 4096) 3 in
    let low : bit_and (w % 4096) 127 ≡ w % 4096 % 128 = and_mask (w % 4096) 7 in
    let there : bit_and w 0x707f ≡ bit_and (w / 4096 * 2 ^ 12 + w % 4096) 0x707f = ap (λ x. bit_and x 0x707f) split in
    omega (arith, there, block, high, low)

-- opcode, funct3 and funct7
pub and_functions : (w : ℕ) → bit_and w 0xfe00707f ≡ w / 33554432 % 128 * 33554432 + w / 4096 % 8 * 4096 + w % 128
and_functions w =
    let split : w ≡ w / 33554432 * 2 ^ 25 + w % 33554432 = omega arith in
    let block : bit_and (w / 33554432 * 2 ^ 25 + w % 33554432) (127 * 2 ^ 25 + 28799)
    ≡ bit_and (w / 33554432) 127 * 2 ^ 25 + bit_and (w % 33554432) 28799 =
    and_block 25 (w / 33554432) 127 (w % 33554432) 28799 (omega arith) (omega arith)
    in
    let high : bit_and (w / 33554432) 127 ≡ w / 33554432 % 128 = and_mask (w / 33554432) 7 in
    let low = and_function (w % 33554432) in
    let there : bit_and w 0xfe00707f ≡ bit_and (w / 33554432 * 2 ^ 25 + w % 33554432) 0xfe00707f = ap (λ x. bit_and x 0xfe00707f) split in
    omega (arith, there, block, high, low)

-- the whole word
pub and_whole : (w : ℕ) → bit_and w 0xffffffff ≡ w % 2 ^ 32
and_whole w = and_mask w 32

-- one bit of `(w & m) ^ (w & n)` under both masks
one_bit : (a m n : ℕ) → a < 2 → m < 2 → n < 2 → min ((min a m + min a n) % 2) (min m n) ≡ 0
one_bit a m n p q r = omega arith

-- two patterns that a word matches agree under both masks
pub xor_under_both : (w m n : ℕ) → bit_and (bit_xor (bit_and w m) (bit_and w n)) (bit_and m n) ≡ 0
xor_under_both w m n =
    same_from_bits _ 0
    (λ i.
    rw (
      bit_at_and (bit_xor (bit_and w m) (bit_and w n)) (bit_and m n) i,
      bit_at_xor (bit_and w m) (bit_and w n) i,
      bit_at_and w m i,
      bit_at_and w n i,
      bit_at_and m n i,
      bit_at-zero i,
    )
    (one_bit (bit_at w i) (bit_at m i) (bit_at n i) (bit_at-lt w i) (bit_at-lt m i) (bit_at-lt n i)))
