-- How many bits a value takes (CoreDSL 2, integer literals).
use Rattle.std.specs.Prelude.{ℕ, ◌-◌, max}
use Rattle.std.specs.Int.Count.{count_leading_zeros}

-- the least width, at least 1, that holds the value, for values below 2^128
abbrev pub least_width : ℕ → ℕ
least_width v = max 1 (128 - count_leading_zeros 128 v)
