-- How the words of a line are read (this project's choice).
use Rattle.std.specs.Prelude.{◌≡◌, ℕ, ◌+◌, ◌*◌, ◌-◌, ◌==◌, ◌&&◌, List, [], ◌∷◌, length, Option, Some, None, false, if◌then◌else◌, nat_le, nat_lt, decimal}
use Rattle.std.specs.Str.{bytes_eq}
use Rattle.std.specs.Str.Parse.{digits_value}

-- ---- one reading behind another
abbrev pub and_then : {X Y : Type 0} → Option X → (X → Option Y) → Option Y
and_then None f = None
and_then (Some x) f = f x

abbrev pub or_else : {X : Type 0} → Option X → Option X → Option X
or_else None o = o
or_else (Some x) o = Some x

-- ---- parts of a text
-- none of these bytes
abbrev pub Free : ℕ → List ℕ → Type 0
Free by [] = Unit {0}
Free by (b ∷ rest) = ((b == by) ≡ false) × Free by rest

-- what stands before the first of these bytes, and what stands from it on
unfoldable pub until : ℕ → List ℕ → List ℕ
until by [] = []
until by (b ∷ rest) = if b == by then [] else b ∷ until by rest

unfoldable pub from : ℕ → List ℕ → List ℕ
from by [] = []
from by (b ∷ rest) = if b == by then b ∷ rest else from by rest

-- what stands behind a front
unfoldable pub behind_in : List ℕ → List ℕ → Option (List ℕ)
behind_in [] text = Some text
behind_in (f ∷ front) [] = None
behind_in (f ∷ front) (b ∷ text) = if f == b then behind_in front text else None

-- ---- numbers
-- a number of at most so much
unfoldable pub number_in : ℕ → List ℕ → Option ℕ
number_in most word = if bytes_eq (decimal (digits_value 10 word)) word && nat_le (digits_value 10 word) most then Some (digits_value 10 word) else None

-- a number below this one
abbrev pub below_in : ℕ → List ℕ → Option ℕ
below_in count word = and_then (number_in 255 word) (λ n. if nat_lt n count then Some n else None)

-- a lower-case hexadecimal digit
abbrev pub digit_in : ℕ → Option ℕ
digit_in b = if nat_le 48 b && nat_le b 57 then Some (b - 48) else (if nat_le 97 b && nat_le b 102 then Some (b - 87) else None)

-- such digits behind a number
unfoldable pub hex_from : ℕ → List ℕ → Option ℕ
hex_from value [] = Some value
hex_from value (b ∷ rest) = and_then (digit_in b) (λ d. hex_from (value * 16 + d) rest)

-- a number in so many hexadecimal digits
abbrev pub digits_in : ℕ → List ℕ → Option ℕ
digits_in count word = if length word == count then hex_from 0 word else None
