-- The operands of an extension's instruction are its fields: first those by which the behaviour indexes X, in the order of bits 11:7, 19:15 and 24:20,
-- which take registers, then the others in the order of their first pieces, which take numbers (this project's choice).
use Rattle.std.specs.Prelude.{ℕ, ◌+◌, List, [], ◌∷◌, ◌++◌, Option, option_map, Bool, true, false, ◌&&◌, ◌==◌, if◌then◌else◌}
use Rattle.ix_tree.specs.declared.extension.Piece.{Piece}
use Rattle.ix_tree.specs.Lexing.{same_bytes}
use Rattle.ix_tree.specs.TypedTrees.{TypedStmtTree}
use Rattle.rv_asm_text.specs.declared.number.Number.{Number}
use Rattle.rv_asm_text.specs.Names.{register_of}
use Rattle.rv_asm_text.specs.Numbers.{number_of, positive}
use Rattle.rv_asm_text.specs.declared.operand.Operand.{Operand}
use Rattle.rv_asm_text.specs.Indexing.{body_indexes}

-- one of the pieces is of the field
abbrev pub has_field : List ℕ → List Piece → Bool
has_field field [] = false
has_field field (p ∷ ps) = if same_bytes p.field field then true else has_field field ps

-- X is indexed by the piece's field, whose bit 0 stands at this place of the word
abbrev pub is_register_at : ℕ → List TypedStmtTree → Piece → Bool
is_register_at place body p = if (p.lo == 0) && (p.at == place) then body_indexes p.field body else false

-- the field by which X is indexed and whose bit 0 stands at this place, by its first piece; the pieces are numbered from k on
abbrev pub register_from : ℕ → List TypedStmtTree → ℕ → List Piece → List Operand
register_from place body k [] = []
register_from place body k (p ∷ ps) = if is_register_at place body p then record { piece = k; is_register = true } ∷ [] else register_from place body (k + 1) ps

-- it has been seen before, or X is indexed by it
abbrev pub is_no_number : List TypedStmtTree → List Piece → Piece → Bool
is_no_number body before p = if has_field p.field before then true else body_indexes p.field body

-- the other fields, each by its first piece
abbrev pub numbers_from : List TypedStmtTree → List Piece → ℕ → List Piece → List Operand
numbers_from body before k [] = []
numbers_from body before k (p ∷ ps) =
    if is_no_number body before p then numbers_from body (before ++ p ∷ []) (k + 1) ps
    else record { piece = k; is_register = false } ∷ numbers_from body (before ++ p ∷ []) (k + 1) ps

-- the operands of an instruction, in the order in which they are written
unfoldable pub operands_of : List TypedStmtTree → List Piece → List Operand
operands_of body pieces =
    ((register_from 7 body 0 pieces ++ register_from 15 body 0 pieces) ++ register_from 20 body 0 pieces) ++ numbers_from body [] 0 pieces

-- what an operand's text writes
abbrev pub operand_value : Operand → List ℕ → Option Number
operand_value o text = if o.is_register then option_map positive (register_of text) else number_of text
