-- The values of the code as types and numbers.
use Rattle.std.specs.Prelude.{ℕ, ℤ, pos, int_lt, int_le, unsigned_abs, Option, Some, None, ◌&&◌, if◌then◌else◌}
use Rattle.ix_bits.specs.Operators.{value_of}
use Rattle.ix_tree.specs.LoopHeads.{Valued, is_int}
use Rattle.ix_bits.specs.declared.number.Value.{Value}

abbrev pub seen : Value → Valued
seen x = record { ty = x.ty; number = value_of x.ty x.bits.raw }

abbrev pub seen_option : Option Value → Option Valued
seen_option None = None
seen_option (Some x) = Some (seen x)

-- the number where it is one of the type `int`
abbrev pub in_int : ℤ → Option ℤ
in_int n = if is_int n then Some n else None

-- the number where it is from 0 to 127
abbrev pub place_of : ℤ → Option ℕ
place_of n = if int_le (pos 0) n && int_lt n (pos 128) then Some (unsigned_abs n) else None
