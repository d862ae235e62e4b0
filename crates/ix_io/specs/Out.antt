-- Digits that are appended to an output (this project's choice; decimal digits are std's `decimal`).
use Rattle.std.specs.Prelude.{ℕ, ◌+◌, ◌/◌, ◌%◌, suc, zero, List, [], ◌∷◌, ◌++◌, nat_lt, if◌then◌else◌}

-- the character of a hexadecimal digit, 0 to 9 and a to f
abbrev pub hex_digit : ℕ → ℕ
hex_digit value = if nat_lt value 10 then 48 + value else 87 + value

-- that many hexadecimal digits of a number, the most significant first
unfoldable pub hex_digits : ℕ → ℕ → List ℕ
hex_digits zero value = []
hex_digits (suc count) value = hex_digits count (value / 16) ++ hex_digit (value % 16) ∷ []
