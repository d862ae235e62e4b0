-- What the operations on words give (RISC-V Unprivileged ISA, RV32I, Integer Computational Instructions). A word is a number below 2^32.
use Rattle.std.specs.Prelude.{ℕ, ◌+◌, ◌-◌, ◌*◌, ◌/◌, ◌%◌, ◌^◌, ℤ, Bool, true, not, if◌then◌else◌, nat_eq, nat_lt, bit_and, bit_or, bit_xor, int_lt}
use Rattle.std.specs.Int.{int_shr}
use Rattle.ix_bits.specs.Types.{number_of}
use Rattle.ix_bits.specs.Operators.{pattern_of}
use Rattle.rv_base.specs.declared.operation.Alu.{Alu}
use Rattle.rv_base.specs.declared.operation.Alu.TheVariants.{Add, Sub, ShiftLeft, LessSigned, Less, Xor, ShiftRight, ShiftRightSigned, Or, And}
use Rattle.rv_base.specs.declared.operation.Test.{Test}
use Rattle.rv_base.specs.declared.operation.Test.TheVariants as test

-- the number of a word in two's complement
abbrev pub signed_word : ℕ → ℤ
signed_word a = number_of true 32 a

-- a sum of words is modulo 2^32
abbrev pub sum : ℕ → ℕ → ℕ
sum a b = (a + b) % 2 ^ 32

abbrev pub bit_of : Bool → ℕ
bit_of b = if b then 1 else 0

-- a shift is by the low five bits of the second word
abbrev pub computed : Alu → ℕ → ℕ → ℕ
computed Add a b = sum a b
computed Sub a b = (a + (2 ^ 32 - b)) % 2 ^ 32
computed ShiftLeft a b = a * 2 ^ (b % 32) % 2 ^ 32
computed LessSigned a b = bit_of (int_lt (signed_word a) (signed_word b))
computed Less a b = bit_of (nat_lt a b)
computed Xor a b = bit_xor a b
computed ShiftRight a b = a / 2 ^ (b % 32)
computed ShiftRightSigned a b = pattern_of 32 (int_shr (signed_word a) (b % 32))
computed Or a b = bit_or a b
computed And a b = bit_and a b

-- what a branch asks
abbrev pub is_taken : Test → ℕ → ℕ → Bool
is_taken test.Equal a b = nat_eq a b
is_taken test.NotEqual a b = not (nat_eq a b)
is_taken test.LessSigned a b = int_lt (signed_word a) (signed_word b)
is_taken test.AtLeastSigned a b = not (int_lt (signed_word a) (signed_word b))
is_taken test.Less a b = nat_lt a b
is_taken test.AtLeast a b = not (nat_lt a b)
