-- Shifts of patterns (CoreDSL 2, `<<` and `>>`: a shift down keeps the sign of a signed number, and a distance past the width is not wrapped).
use Rattle.std.specs.Prelude.{ℕ, ◌*◌, ◌%◌, ◌^◌}
use Rattle.std.specs.Int.{int_shr}
use Rattle.ix_bits.specs.Types.{number_of}
use Rattle.ix_bits.specs.Operators.{pattern_of}
use Rattle.ix_cells.specs.declared.shifting.Way.{Way}
use Rattle.ix_cells.specs.declared.shifting.Way.TheVariants.{Up, Down}

-- the pattern of a width that is moved a way by a distance
abbrev pub moved : Way → ℕ → ℕ → ℕ → ℕ
moved Up width raw distance = raw * 2 ^ distance % 2 ^ width
moved (Down signed) width raw distance = pattern_of width (int_shr (number_of signed width raw) distance)
