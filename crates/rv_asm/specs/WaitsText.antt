-- The text of a memory's waits: decimal numbers that white space parts (this project's choice).
use Rattle.std.specs.Prelude.{◌≡◌, ℕ, ◌≤◌, List, ◌∷◌, ◌++◌, length, Option, Some, None, ◌&&◌, if◌then◌else◌, nat_le, ◌⊎◌}
use Rattle.std.specs.Option.{option_and_then}
use Rattle.rv_waits.specs.Waits.{most_waits}
use Rattle.rv_asm.specs.declared.image_text.TextErr.{TextErr}
use Rattle.rv_asm.specs.declared.image_text.TextErr.TheVariants.{At, Memory}
use Rattle.rv_asm.specs.NumbersText.{words_of, decimal_number, AreNumbers}

abbrev pub at_most_255 : ℕ → Option ℕ
at_most_255 number = if nat_le number 255 then Some number else None

-- a wait is one to three decimal digits that write a number of at most 255
abbrev pub wait_in : List ℕ → Option ℕ
wait_in word = if nat_le 1 (length word) && nat_le (length word) 3 then option_and_then at_most_255 (decimal_number 0 word) else None

-- each of these words is a wait, and these are the waits
abbrev pub AreWaits : List (List ℕ) → List ℕ → Type 0
AreWaits words waits = AreNumbers wait_in words waits

-- the text has these waits, and no more than there may be
pub record IsWaitsText (bytes waits : List ℕ) : Type 0 where
  pub waits_are : AreWaits (words_of bytes) waits
  pub few : length waits ≤ most_waits

-- behind these waits a word is refused: it is no wait, or one too many
abbrev pub IsRefusedBehind : List ℕ → List ℕ → Type 0
IsRefusedBehind waits word = (wait_in word ≡ None) ⊎ (length waits ≡ most_waits)

-- the word of this number, from 0, is the first that is refused
pub record IsBadWait (bytes : List ℕ) (number : ℕ) : Type 0 where
  pub before : List (List ℕ)
  pub word : List ℕ
  pub behind : List (List ℕ)
  pub waits : List ℕ
  pub words : words_of bytes ≡ before ++ word ∷ behind
  pub number_is : number ≡ length before
  pub waits_are : AreWaits before waits
  pub few : length waits ≤ most_waits
  pub refused : IsRefusedBehind waits word

-- what a refusal says: nothing of memory, and else the first word that is refused
abbrev pub IsWaitsRefusal : List ℕ → TextErr → Type 0
IsWaitsRefusal bytes (At number) = IsBadWait bytes number
IsWaitsRefusal bytes Memory = Unit {0}

-- what a refusal says of a word behind these waits
abbrev pub IsWordRefusal : List ℕ → List ℕ → TextErr → Type 0
IsWordRefusal waits word (At number) = (number ≡ length waits) × IsRefusedBehind waits word
IsWordRefusal waits word Memory = Unit {0}
