-- The text of the rows in which an interrupt line is raised: decimal numbers, each greater than the one before, that white space parts (this project's choice).
use Rattle.std.specs.Prelude.{◌≡◌, ℕ, ◌<◌, ◌≤◌, List, ◌∷◌, ◌++◌, length, Option, Some, None, ◌&&◌, if◌then◌else◌, nat_le, nat_lt, ◌⊎◌}
use Rattle.std.specs.Option.{option_and_then}
use Rattle.rv_waits.specs.Lines.{most_lines, rows_end, next_row, Ascending}
use Rattle.rv_asm.specs.declared.image_text.TextErr.{TextErr}
use Rattle.rv_asm.specs.declared.image_text.TextErr.TheVariants.{At, Memory}
use Rattle.rv_asm.specs.NumbersText.{words_of, decimal_number, AreNumbers}

abbrev pub below_the_end : ℕ → Option ℕ
below_the_end row = if nat_lt row rows_end then Some row else None

-- the number of a row is one to six decimal digits that write a number below 200,000
abbrev pub row_in : List ℕ → Option ℕ
row_in word = if nat_le 1 (length word) && nat_le (length word) 6 then option_and_then below_the_end (decimal_number 0 word) else None

-- each of these words is the number of a row, and these are the rows
abbrev pub AreRows : List (List ℕ) → List ℕ → Type 0
AreRows words lines = AreNumbers row_in words lines

-- the text has these rows, each above the one before, and no more than there may be
pub record IsLinesText (bytes lines : List ℕ) : Type 0 where
  pub rows_are : AreRows (words_of bytes) lines
  pub ascending : Ascending 0 lines
  pub few : length lines ≤ most_lines

-- behind these rows a word is refused: it is no row above the last one, or one too many
abbrev pub IsRowRefused : List ℕ → List ℕ → Type 0
IsRowRefused lines word = ((row : ℕ) → row_in word ≡ Some row → row < next_row lines) ⊎ (length lines ≡ most_lines)

-- the word of this number, from 0, is the first that is refused
pub record IsBadRow (bytes : List ℕ) (number : ℕ) : Type 0 where
  pub before : List (List ℕ)
  pub word : List ℕ
  pub behind : List (List ℕ)
  pub lines : List ℕ
  pub words : words_of bytes ≡ before ++ word ∷ behind
  pub number_is : number ≡ length before
  pub rows_are : AreRows before lines
  pub ascending : Ascending 0 lines
  pub few : length lines ≤ most_lines
  pub refused : IsRowRefused lines word

-- what a refusal says: nothing of memory, and else the first word that is refused
abbrev pub IsLinesRefusal : List ℕ → TextErr → Type 0
IsLinesRefusal bytes (At number) = IsBadRow bytes number
IsLinesRefusal bytes Memory = Unit {0}

-- what a refusal says of a word behind these rows
abbrev pub IsRowRefusal : List ℕ → List ℕ → TextErr → Type 0
IsRowRefusal lines word (At number) = (number ≡ length lines) × IsRowRefused lines word
IsRowRefusal lines word Memory = Unit {0}
