-- In which line a text first differs from another (this project's choice).
use Rattle.std.specs.Prelude.{◌≡◌, ◌≢◌, ℕ, ◌+◌, ◌-◌, ◌<◌, ◌^◌, List, [], ◌∷◌, ◌++◌, length, get_or, ◌==◌, nat_lt, if◌then◌else◌, Option, Some, None, true, false, ◌&&◌}
use Rattle.rv_reader.specs.Traces.{feeds}
use Rattle.rv_ending.specs.declared.compare.Compared.{Compared}

-- what two texts begin with alike
unfoldable pub common : List ℕ → List ℕ → List ℕ
common [] other = []
common (b ∷ text) [] = []
common (b ∷ text) (c ∷ other) = if b == c then b ∷ common text other else []

-- the texts differ, for the first time in this line, where the first line has this number
pub record IsDifferingLine (first : ℕ) (text other : List ℕ) (line : ℕ) : Type 0 where
  pub differ : text ≢ other
  pub line_is : line ≡ first + feeds (common text other)

-- the line in which they differ, or they are the same
abbrev pub TellsDiffering : ℕ → List ℕ → List ℕ → Option ℕ → Type 0
TellsDiffering first text other None = text ≡ other
TellsDiffering first text other (Some line) = IsDifferingLine first text other line

-- so much is known of a text beside the other, of which this was compared so far
pub record IsCompared (first : ℕ) (text so_far : List ℕ) (c : Compared) : Type 0 where
  pub at : c.at ≡ length (common text so_far)
  pub line : c.line ≡ first + feeds (common text so_far)
  pub only : c.is_same ≡ true → (rest : List ℕ) × (text ≡ so_far ++ rest)
  pub all : (rest : List ℕ) → text ≡ so_far ++ rest → c.is_same ≡ true

-- the count of the lines fits
abbrev pub HasRoom : List ℕ → Compared → Type 0
HasRoom text c = c.line + (length text - c.at) < 2 ^ 32

-- with one byte more of the other text
abbrev pub with_next : List ℕ → ℕ → Compared → Compared
with_next text b c =
    if c.is_same then
    (if nat_lt c.at (length text) && (get_or text c.at 0 == b)
    then record { at = c.at + 1; line = if b == 10 then c.line + 1 else c.line; is_same = true }
    else record { at = c.at; line = c.line; is_same = false })
    else c
