-- The word of an extension's instruction: its fixed bits, and each operand's bits in the places of its field's pieces
-- (CoreDSL 2, instruction encodings; the range of a number is this project's choice).
use Rattle.std.specs.Prelude.{ℕ, ◌+◌, ◌-◌, ◌*◌, ◌/◌, ◌%◌, ◌^◌, List, [], ◌∷◌, Option, Some, None, Bool, ◌==◌, if◌then◌else◌, nat_le, nat_lt, min, max, bit_or, slice_get}
use Rattle.std.specs.Option.{option_and_then}
use Rattle.ix_tree.specs.declared.extension.Piece.{Piece}
use Rattle.ix_tree.specs.Lexing.{same_bytes}
use Rattle.ix_extension.specs.Extensions.{InstructionTree}
use Rattle.rv_asm_text.specs.declared.number.Number.{Number}
use Rattle.rv_asm_text.specs.declared.operand.Operand.{Operand}
use Rattle.rv_asm_text.specs.declared.verdict.Verdict.{Verdict}
use Rattle.rv_asm_text.specs.declared.verdict.Verdict.TheVariants.{Empty, Word, Line, Label, Reach}
use Rattle.rv_asm_text.specs.Operands.{operands_of, operand_value}

-- the width of a field: its highest bit plus 1, at most that of a word
abbrev pub width_from : List ℕ → ℕ → List Piece → ℕ
width_from field front [] = min front 32
width_from field front (p ∷ ps) = width_from field (if same_bytes p.field field then max front (p.hi + 1) else front) ps

-- the pattern of a number from -2^(width-1) to 2^width - 1
abbrev pub pattern_in : ℕ → Number → Option ℕ
pattern_in width n =
    if n.is_negative then (if nat_le n.size (2 ^ (width - 1)) then Some ((2 ^ width - n.size) % 2 ^ width) else None)
    else (if nat_lt n.size (2 ^ width) then Some n.size else None)

-- bits hi down to lo of a pattern
abbrev pub part_of : ℕ → Piece → ℕ
part_of value p = value / 2 ^ p.lo % 2 ^ (p.hi + 1 - p.lo)

abbrev pub shifted : ℕ → ℕ → ℕ
shifted bits at = bits * 2 ^ at % 2 ^ 32

-- the bits of a field's value that its pieces give, at their places in the value
abbrev pub given_from : List ℕ → ℕ → ℕ → List Piece → ℕ
given_from field value front [] = front
given_from field value front (p ∷ ps) = given_from field value (if same_bytes p.field field then bit_or front (shifted (part_of value p) p.lo) else front) ps

-- the bits of a field's value in the places of its pieces in the word
abbrev pub placed_from : List ℕ → ℕ → ℕ → List Piece → ℕ
placed_from field value front [] = front
placed_from field value front (p ∷ ps) = placed_from field value (if same_bytes p.field field then bit_or front (shifted (part_of value p) p.at) else front) ps

-- each bit of the value that the encoding does not give is 0
abbrev pub is_given : List ℕ → ℕ → List Piece → Bool
is_given field value pieces = given_from field value 0 pieces == value

abbrev pub placed_in : List ℕ → List Piece → ℕ → Option ℕ
placed_in field pieces value = if is_given field value pieces then Some (placed_from field value 0 pieces) else None

-- the bits of the word that a field's number gives, where the number is in its range
abbrev pub field_bits : List Piece → Number → List ℕ → Option ℕ
field_bits pieces n field = option_and_then (placed_in field pieces) (pattern_in (width_from field 0 pieces) n)

abbrev pub operand_bits : List Piece → Operand → Number → Option ℕ
operand_bits pieces o n = option_and_then (λ (p : Piece). field_bits pieces n p.field) (slice_get pieces o.piece)

-- a word with more bits; Reach where it has none
abbrev pub joined_bits : ℕ → Option ℕ → Verdict
joined_bits word None = Reach
joined_bits word (Some bits) = Word (bit_or word bits)

abbrev pub with_bits : Verdict → Option ℕ → Verdict
with_bits Empty bits = Empty
with_bits (Word word) bits = joined_bits word bits
with_bits Line bits = Line
with_bits Label bits = Label
with_bits Reach bits = Reach

abbrev pub on_value : (Number → Verdict) → Option Number → Verdict
on_value next None = Line
on_value next (Some n) = next n

-- Line where an operand has no form, or there are more or fewer of them; else Reach where a number is outside its range; else the word
abbrev pub filled : List Piece → Verdict → List Operand → List (List ℕ) → Verdict
filled pieces v [] [] = v
filled pieces v [] (text ∷ texts) = Line
filled pieces v (o ∷ os) [] = Line
filled pieces v (o ∷ os) (text ∷ texts) = on_value (λ n. filled pieces (with_bits v (operand_bits pieces o n)) os texts) (operand_value o text)

-- what an instruction of an extension says with these operands
unfoldable pub own_verdict : InstructionTree → List (List ℕ) → Verdict
own_verdict i texts = filled i.pieces (Word i.matches) (operands_of i.behaviour.body i.pieces) texts

-- the instruction of this name
abbrev pub named_instruction : List ℕ → List InstructionTree → Option InstructionTree
named_instruction name [] = None
named_instruction name (i ∷ is) = if same_bytes i.behaviour.name name then Some i else named_instruction name is

-- what the instruction that was found says, and Line where there is none
abbrev pub found_verdict : List (List ℕ) → Option InstructionTree → Verdict
found_verdict texts None = Line
found_verdict texts (Some i) = own_verdict i texts
