-- The parts of a line: `[label:] [instruction] [# comment]`, the instruction's operands between commas (this project's choice).
use Rattle.std.specs.Prelude.{ℕ, ◌+◌, List, [], ◌∷◌, length, reverse, take, drop, map, Option, Some, None, option_map, Bool, false, ◌||◌, if◌then◌else◌, ◌==◌, nat_lt}
use Rattle.std.specs.List.{slice_split, list_all, position}
use Rattle.std.specs.Option.{option_and_then}
use Rattle.ix_tree.specs.Lexing.{is_letter, is_name_byte}

-- the lines, which line feeds part; what stands behind the last one is a line too
abbrev pub lines_of : List ℕ → List (List ℕ)
lines_of bytes = slice_split (λ b. b == 10) bytes

-- a space, a tab or a carriage return
abbrev pub is_blank : ℕ → Bool
is_blank b = (b == 32) || ((b == 9) || (b == 13))

abbrev pub without_blanks : List ℕ → List ℕ
without_blanks [] = []
without_blanks (b ∷ rest) = if is_blank b then without_blanks rest else b ∷ rest

abbrev pub without_last_blanks : List ℕ → List ℕ
without_last_blanks text = reverse (without_blanks (reverse text))

-- the text without the blanks at both ends
abbrev pub trimmed : List ℕ → List ℕ
trimmed text = without_last_blanks (without_blanks text)

abbrev pub front_to : Option ℕ → List ℕ → List ℕ
front_to None text = text
front_to (Some k) text = take k text

-- the text in front of the first byte that passes the test, or all of it
abbrev pub before_first : (ℕ → Bool) → List ℕ → List ℕ
before_first test text = front_to (position test text) text

abbrev pub rest_from : Option ℕ → List ℕ → List ℕ
rest_from None text = []
rest_from (Some k) text = drop k text

-- the text from the first byte on that passes the test
abbrev pub from_first : (ℕ → Bool) → List ℕ → List ℕ
from_first test text = rest_from (position test text) text

-- the line without its comment, which `#` begins, and without blanks at both ends
abbrev pub content_of : List ℕ → List ℕ
content_of line = trimmed (before_first (λ b. b == 35) line)

-- a name: a letter or `_`, then letters, digits and `_`, at most 64 bytes
abbrev pub is_name : List ℕ → Bool
is_name [] = false
is_name (b ∷ rest) = if is_letter b then (if nat_lt 63 (length rest) then false else list_all is_name_byte rest) else false

abbrev pub named_before : List ℕ → ℕ → Option ℕ
named_before text k = if is_name (take k text) then Some k else None

-- where the colon stands that ends a label
abbrev pub label_end : List ℕ → Option ℕ
label_end text = option_and_then (named_before text) (position (λ b. b == 58) text)

-- the label of a line
unfoldable pub label_of : List ℕ → Option (List ℕ)
label_of line = option_map (λ k. take k (content_of line)) (label_end (content_of line))

abbrev pub behind_label : Option ℕ → List ℕ → List ℕ
behind_label None text = text
behind_label (Some k) text = without_blanks (drop (k + 1) text)

-- the instruction of a line, without blanks at both ends; empty where there is none
unfoldable pub instruction_of : List ℕ → List ℕ
instruction_of line = behind_label (label_end (content_of line)) (content_of line)

-- the name of an instruction: what stands before the first blank
unfoldable pub name_of : List ℕ → List ℕ
name_of text = before_first is_blank text

abbrev pub parted : List ℕ → List (List ℕ)
parted [] = []
parted (b ∷ rest) = map trimmed (slice_split (λ c. c == 44) (b ∷ rest))

-- the operands behind the name, which commas part
unfoldable pub operands_of : List ℕ → List (List ℕ)
operands_of text = parted (without_blanks (from_first is_blank text))

-- n(rs1): what stands before the bracket, and what stands in it
abbrev pub opened : List ℕ → Option (List ℕ × List ℕ)
opened text = option_map (λ k. (without_last_blanks (take k text), trimmed (drop (k + 1) text))) (position (λ b. b == 40) text)

abbrev pub closed : List ℕ → Option (List ℕ)
closed [] = None
closed (b ∷ rest) = if b == 41 then Some (reverse rest) else None

unfoldable pub indexed_of : List ℕ → Option (List ℕ × List ℕ)
indexed_of operand = option_and_then opened (closed (reverse operand))
