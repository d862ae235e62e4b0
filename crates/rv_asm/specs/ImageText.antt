-- The text of an image: one word a line (this project's choice).
use Rattle.std.specs.Prelude.{◌≡◌, ◌≢◌, ℕ, ◌+◌, ◌-◌, ◌*◌, ◌≤◌, List, [], ◌∷◌, ◌++◌, length, reverse, Option, Some, None, Bool, true, ◌&&◌, ◌||◌, if◌then◌else◌, ◌==◌, nat_le, ◌⊎◌}
use Rattle.std.specs.List.{slice_split, flat_map}
use Rattle.std.specs.Option.{option_and_then}
use Rattle.rv_isa.specs.Images.{most_words}
use Rattle.rv_asm.specs.declared.image_text.Line.{Line}
use Rattle.rv_asm.specs.declared.image_text.Line.TheVariants.{Skipped, Word, Bad}
use Rattle.rv_asm.specs.declared.image_text.TextErr.{TextErr}
use Rattle.rv_asm.specs.declared.image_text.TextErr.TheVariants.{At, Memory}
use Rattle.ix_io.specs.Out.{hex_digits}

-- the lines, which line feeds part
abbrev pub lines_of : List ℕ → List (List ℕ)
lines_of bytes = slice_split (λ b. b == 10) bytes

-- a space, a tab or a carriage return
abbrev pub is_blank : ℕ → Bool
is_blank b = (b == 32) || ((b == 9) || (b == 13))

abbrev pub without_blanks : List ℕ → List ℕ
without_blanks [] = []
without_blanks (b ∷ rest) = if is_blank b then without_blanks rest else b ∷ rest

abbrev pub without_last_blanks : List ℕ → List ℕ
without_last_blanks line = reverse (without_blanks (reverse line))

-- the line without the blanks at both ends
abbrev pub trimmed : List ℕ → List ℕ
trimmed line = without_last_blanks (without_blanks line)

-- the value of a hexadecimal digit, of either case
abbrev pub hex_value : ℕ → Option ℕ
hex_value b =
    if nat_le 48 b && nat_le b 57 then Some (b - 48)
    else if nat_le 65 b && nat_le b 70 then Some (b - 55)
    else if nat_le 97 b && nat_le b 102 then Some (b - 87)
    else None

-- the number that these hexadecimal digits write behind those of `front`
abbrev pub hex_number : ℕ → List ℕ → Option ℕ
hex_number front [] = Some front
hex_number front (b ∷ rest) = option_and_then (λ digit. hex_number (16 * front + digit) rest) (hex_value b)

-- a word is exactly eight hexadecimal digits
abbrev pub hex_word : List ℕ → Option ℕ
hex_word line = if length line == 8 then hex_number 0 line else None

-- an empty line, and one that begins with # or //, is skipped
abbrev pub is_skipped : List ℕ → Bool
is_skipped [] = true
is_skipped (a ∷ []) = a == 35
is_skipped (a ∷ b ∷ rest) = (a == 35) || ((a == 47) && (b == 47))

abbrev pub word_or_bad : Option ℕ → Line
word_or_bad None = Bad
word_or_bad (Some word) = Word word

abbrev pub kind_of_trimmed : List ℕ → Line
kind_of_trimmed line = if is_skipped line then Skipped else word_or_bad (hex_word line)

-- what a line is
abbrev pub line_of : List ℕ → Line
line_of line = kind_of_trimmed (trimmed line)

abbrev pub with_word : Line → List ℕ → List ℕ
with_word Skipped words = words
with_word (Word word) words = word ∷ words
with_word Bad words = words

-- the words of these lines, in order
abbrev pub words_in : List (List ℕ) → List ℕ
words_in [] = []
words_in (line ∷ rest) = with_word (line_of line) (words_in rest)

-- no line is bad
abbrev pub AllGood : List (List ℕ) → Type 0
AllGood [] = Unit {0}
AllGood (line ∷ rest) = (line_of line ≢ Bad) × AllGood rest

-- the text has these words, and no more than an image may have
pub record IsImageText (bytes words : List ℕ) : Type 0 where
  pub good : AllGood (lines_of bytes)
  pub words_are : words ≡ words_in (lines_of bytes)
  pub few : length words ≤ most_words

-- the line of this number, from 1, is the first bad one, or has the word after the last one that fits
pub record IsBadLine (bytes : List ℕ) (number : ℕ) : Type 0 where
  pub before : List (List ℕ)
  pub line : List ℕ
  pub behind : List (List ℕ)
  pub parts : lines_of bytes ≡ before ++ line ∷ behind
  pub number_is : number ≡ length before + 1
  pub good : AllGood before
  pub few : length (words_in before) ≤ most_words
  pub refused : (line_of line ≡ Bad) ⊎ ((word : ℕ) × (line_of line ≡ Word word) × (length (words_in before) ≡ most_words))

-- what a refusal says: nothing of memory, and else the bad line
abbrev pub IsRefusal : List ℕ → TextErr → Type 0
IsRefusal bytes (At number) = IsBadLine bytes number
IsRefusal bytes Memory = Unit {0}

-- the printed line of a word: eight lower-case hexadecimal digits
abbrev pub word_text : ℕ → List ℕ
word_text word = hex_digits 8 word ++ 10 ∷ []

-- the printed text of these words
abbrev pub image_text : List ℕ → List ℕ
image_text words = flat_map word_text words
