-- Numbers of a source: decimal digits with an optional minus sign, or hexadecimal digits behind 0x (this project's choice, as of the usual assemblers).
use Rattle.std.specs.Prelude.{ℕ, ◌+◌, ◌-◌, ◌*◌, ◌^◌, List, [], ◌∷◌, Option, Some, None, option_map, Bool, false, ◌&&◌, ◌==◌, if◌then◌else◌, nat_le, nat_lt, min}
use Rattle.std.specs.Option.{option_and_then}
use Rattle.rv_asm_text.specs.declared.number.Number.{Number}

-- a size past this one counts as this one; no form takes a number as great as that
abbrev pub most_size : ℕ
most_size = 2 ^ 40

-- the value of a digit, of either case
abbrev pub digit_value : ℕ → Option ℕ
digit_value b =
    if nat_le 48 b && nat_le b 57 then Some (b - 48)
    else if nat_le 65 b && nat_le b 70 then Some (b - 55)
    else if nat_le 97 b && nat_le b 102 then Some (b - 87)
    else None

abbrev pub below : ℕ → ℕ → Option ℕ
below base value = if nat_lt value base then Some value else None

-- the value of a digit of this base
abbrev pub digit_of : ℕ → ℕ → Option ℕ
digit_of base b = option_and_then (below base) (digit_value b)

-- the number that these digits write behind those of `front`
abbrev pub digits_size : ℕ → ℕ → List ℕ → Option ℕ
digits_size base front [] = Some front
digits_size base front (b ∷ rest) = option_and_then (λ digit. digits_size base (min (base * front + digit) most_size) rest) (digit_of base b)

-- the number that one or more digits write; leading zeros are read
abbrev pub size_of : ℕ → List ℕ → Option ℕ
size_of base [] = None
size_of base (b ∷ rest) = digits_size base 0 (b ∷ rest)

abbrev pub positive : ℕ → Number
positive size = record { is_negative = false; size = size }

-- there is one zero
abbrev pub negative : ℕ → Number
negative size = record { is_negative = nat_lt 0 size; size = size }

-- 0x begins hexadecimal digits
abbrev pub has_prefix : List ℕ → Bool
has_prefix [] = false
has_prefix (a ∷ []) = false
has_prefix (a ∷ b ∷ rest) = (a == 48) && (b == 120)

abbrev pub without_two : List ℕ → List ℕ
without_two [] = []
without_two (a ∷ []) = []
without_two (a ∷ b ∷ rest) = rest

abbrev pub natural_of : List ℕ → Option ℕ
natural_of word = if has_prefix word then size_of 16 (without_two word) else size_of 10 word

-- the number that a word writes
unfoldable pub number_of : List ℕ → Option Number
number_of [] = None
number_of (b ∷ rest) = if b == 45 then option_map negative (size_of 10 rest) else option_map positive (natural_of (b ∷ rest))
