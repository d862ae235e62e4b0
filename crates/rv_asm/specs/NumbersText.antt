-- Numbers in a text: decimal digits that white space parts (this project's choice).
use Rattle.std.specs.Prelude.{◌≡◌, ℕ, ◌+◌, ◌-◌, ◌*◌, List, [], ◌∷◌, map, Option, Some, None, Bool, ◌&&◌, ◌||◌, if◌then◌else◌, ◌==◌, nat_le}
use Rattle.std.specs.List.{slice_split}
use Rattle.std.specs.Option.{option_and_then}

-- a space, a tab, a carriage return or a line feed
abbrev pub is_space : ℕ → Bool
is_space b = (b == 32) || ((b == 9) || ((b == 13) || (b == 10)))

-- the parts of a text between its white space, of which many may be empty
abbrev pub parts_of : List ℕ → List (List ℕ)
parts_of bytes = slice_split is_space bytes

-- the words among these parts: those that are not empty
abbrev pub words_among : List (List ℕ) → List (List ℕ)
words_among [] = []
words_among ([] ∷ parts) = words_among parts
words_among ((b ∷ word) ∷ parts) = (b ∷ word) ∷ words_among parts

abbrev pub words_of : List ℕ → List (List ℕ)
words_of bytes = words_among (parts_of bytes)

-- the value of a decimal digit
abbrev pub digit_value : ℕ → Option ℕ
digit_value b = if nat_le 48 b && nat_le b 57 then Some (b - 48) else None

-- the number that these decimal digits write behind those of `front`
abbrev pub decimal_number : ℕ → List ℕ → Option ℕ
decimal_number front [] = Some front
decimal_number front (b ∷ rest) = option_and_then (λ digit. decimal_number (10 * front + digit) rest) (digit_value b)

-- each of these words is a number as `number_in` reads it, and these are the numbers
abbrev pub AreNumbers : (List ℕ → Option ℕ) → List (List ℕ) → List ℕ → Type 0
AreNumbers number_in words numbers = map number_in words ≡ map Some numbers
