-- Labels: where each name stands first, and what a target is (this project's choice).
use Rattle.std.specs.Prelude.{ℕ, ◌+◌, ◌-◌, ◌*◌, List, [], ◌∷◌, Option, Some, None, Bool, true, false, not, ◌==◌, if◌then◌else◌, nat_le}
use Rattle.std.specs.Str.{bytes_eq}
use Rattle.std.specs.BTreeMap.{BTreeMap, get_by}
use Rattle.std.specs.Cmp.Lexicographic.{slice_cmp}
use Rattle.std.specs.Ordering.{nat_cmp}
use denote.Ref.{Bor}
use Rattle.rv_asm_text.specs.declared.number.Number.{Number}
use Rattle.rv_asm_text.specs.Lines.{is_name, label_of, instruction_of}
use Rattle.rv_asm_text.specs.Numbers.{number_of}
use Rattle.rv_asm.specs.declared.label.Place.{Place}
use Rattle.rv_asm.specs.declared.label.Target.{Target}
use Rattle.rv_asm.specs.declared.label.Target.TheVariants.{Bad, Unknown, By}

-- where names stand
abbrev pub Places : Type 0
Places = List ℕ → Option Place

-- a line with an instruction, whether it has a form or not, counts as a word
abbrev pub counted : List ℕ → ℕ
counted [] = 0
counted (b ∷ rest) = 1

abbrev pub words_of : List ℕ → ℕ
words_of line = counted (instruction_of line)

-- the line has this label
abbrev pub is_labelled : List ℕ → Option (List ℕ) → Bool
is_labelled name None = false
is_labelled name (Some label) = bytes_eq label name

-- the first of these lines with this label, where lines are numbered and words counted from these numbers on
abbrev pub place_from : ℕ → ℕ → List ℕ → List (List ℕ) → Option Place
place_from number at name [] = None
place_from number at name (line ∷ lines) =
    if is_labelled name (label_of line) then Some (record { line = number; word = at }) else place_from (number + 1) (at + words_of line) name lines

-- where a name stands first in a text
abbrev pub place_of : List (List ℕ) → List ℕ → Option Place
place_of lines name = place_from 0 0 name lines

-- the first of two
abbrev pub kept : Option Place → Option Place → Option Place
kept None later = later
kept (Some place) later = Some place

abbrev pub marked : Bool → Place → Option Place
marked b place = if b then Some place else None

-- ---- targets
-- the way from a word to another one in bytes
abbrev pub offset : ℕ → ℕ → Number
offset at to = if nat_le at to then record { is_negative = false; size = 4 * (to - at) } else record { is_negative = true; size = 4 * (at - to) }

abbrev pub to_place : ℕ → Option Place → Target
to_place at None = Unknown
to_place at (Some place) = By (offset at place.word)

abbrev pub by_number : Option Number → Target
by_number None = Bad
by_number (Some n) = By n

-- a name is a label, and anything else an offset
unfoldable pub target_of : Places → ℕ → List ℕ → Target
target_of places at text = if is_name text then to_place at (places text) else by_number (number_of text)

-- ---- the label of a line stands on an earlier line too
abbrev pub is_elsewhere : ℕ → Option Place → Bool
is_elsewhere number None = false
is_elsewhere number (Some place) = not (place.line == number)

abbrev pub is_label_doubled : Places → ℕ → Option (List ℕ) → Bool
is_label_doubled places number None = false
is_label_doubled places number (Some name) = is_elsewhere number (places name)

unfoldable pub is_doubled : Places → ℕ → List ℕ → Bool
is_doubled places number line = is_label_doubled places number (label_of line)

-- ---- the map of the code
abbrev pub Map : Type 0
Map = BTreeMap (Bor (List ℕ)) Place

abbrev pub found : Map → List ℕ → Option Place
found m name = get_by (λ (k : Bor (List ℕ)). slice_cmp nat_cmp name k.now) m
