-- Lines of refusals that tell a place, and what is told of it.
use Rattle.std.specs.Prelude.{◌≡◌, ◌≢◌, ◌+◌, ◌<◌, ◌++◌, ◌∷◌, ◌^◌, ◌⊎◌, [], ℕ, List, length, codes, slice_index}
use Rattle.std.specs.List.{count_by}
use Rattle.ix_diagnose.specs.Lines.{is_feed, line_number}
use Rattle.ix_diagnose.specs.Shown.{TellsAt}

-- a word of a line: no space stands in it
abbrev pub IsWord : List ℕ → Type 0
IsWord word = (i : ℕ) → i < length word → slice_index word i ≢ 32

-- a word, a space, and what follows
abbrev pub before : List ℕ → List ℕ → List ℕ
before word rest = word ++ 32 ∷ rest

-- a line: what was refused, and what is told of it
abbrev pub refusal_line : List ℕ → List ℕ → List ℕ
refusal_line status rest = before (codes "refused") (before status rest) ++ codes "\n"

-- how many lines a file has
abbrev pub line_count : List ℕ → ℕ
line_count bytes = count_by is_feed bytes + 1

-- the text tells of a byte in the line of that number
pub record TellsLine (name bytes : List ℕ) (number : ℕ) (text : List ℕ) : Type 0 where
  pub from : ℕ
  pub to : ℕ
  pub tells : TellsAt name bytes from to text
  pub number_is : line_number bytes tells.start ≡ number

-- each number that is told is below this
abbrev pub IsTold : ℕ → Type 0
IsTold n = n < 2 ^ 64

-- the text tells of a place of the file
abbrev pub TellsSomewhere : List ℕ → List ℕ → List ℕ → Type 0
TellsSomewhere name bytes text = (from : ℕ) × ((to : ℕ) × TellsAt name bytes from to text)

-- the text tells of the file as a whole
abbrev pub TellsWhole : List ℕ → List ℕ → Type 0
TellsWhole name text = (sentence : List ℕ) × (text ≡ name ++ (codes ": error: " ++ (sentence ++ codes "\n")))

-- what is told of a file, if anything is
abbrev pub Tells : List ℕ → List ℕ → List ℕ → Type 0
Tells name bytes text = (text ≡ []) ⊎ TellsWhole name text ⊎ TellsSomewhere name bytes text
