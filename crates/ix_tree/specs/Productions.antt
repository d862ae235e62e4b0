-- What each production of types, places, statements and sections makes of its parts.
use Rattle.std.specs.Prelude.{ℕ, List, [], ◌∷◌, Option, Some, None, false}
use Rattle.std.proofs.Common.{lit≤, lit<}
use Rattle.ix_bits.specs.declared.number.Ty.{Ty}
use Rattle.ix_bits.specs.declared.number.Bits.{Bits}
use Rattle.ix_bits.specs.declared.operator.BinOp.{BinOp}
use Rattle.ix_tree.specs.declared.token.Token.{Token}
use Rattle.ix_tree.specs.declared.expr.TypeText.{TypeText}
use Rattle.ix_tree.specs.declared.expr.TypeKind.{TypeKind}
use Rattle.ix_tree.specs.declared.section.PieceText.{PieceText}
use Rattle.ix_tree.specs.declared.section.PieceKind.TheVariants.{Fixed, Field}
use Rattle.ix_tree.specs.Trees.{ExprTree, e_literal, l_name, l_pc, l_x, l_mem, Place, AssignTree, DeclTree, StmtTree, s_block, s_empty, s_locals, s_assign, s_if, s_if_else, s_for, s_spawn, StmtRow, row_end, row_more, StateTree, k_register, k_table, InstrTree, BlockTree, SectionTree, SectionKindTree, TextTree, Part, span, between}

-- ---- truth values and the 1 of `++` and `--`
abbrev pub bit_type : Ty
bit_type = record { signed = false; width = 1; some_width = lit≤ tt; most_width = lit≤ tt }

abbrev pub one_bit : Bits
one_bit = record { raw = 1; width = 1; some_width = lit≤ tt; most_width = lit≤ tt; in_width = lit< tt }

abbrev pub zero_bit : Bits
zero_bit = record { raw = 0; width = 1; some_width = lit≤ tt; most_width = lit≤ tt; in_width = lit< tt }

-- ---- types
abbrev pub type_text : Token → Token → TypeKind → TypeText
type_text a b kind = record { span = between a b; kind = kind }

-- ---- places
abbrev pub place_name : Token → List ℕ → Place
place_name t n = record { span = t.span; tree = l_name n }

abbrev pub place_pc : Token → Place
place_pc t = record { span = t.span; tree = l_pc }

abbrev pub place_x : Token → Part → Token → Place
place_x t v c = record { span = between t c; tree = l_x v.tree }

abbrev pub place_mem : Token → Part → Token → Place
place_mem t v c = record { span = between t c; tree = l_mem v.tree None }

abbrev pub place_mem_range : Token → Part → Part → Token → Place
place_mem_range t v w c = record { span = between t c; tree = l_mem v.tree (Some w.tree) }

-- ---- assignments; the 1 of `++` and `--` has the span of the symbol
abbrev pub assign_set : Place → Option BinOp → Part → AssignTree
assign_set l op v = record { span = span l.span.from v.to; target = l; op = op; value = v.tree }

abbrev pub assign_before : Token → BinOp → Place → AssignTree
assign_before t op l = record { span = span t.span.from l.span.to; target = l; op = Some op; value = e_literal t.span bit_type one_bit }

abbrev pub assign_after : Place → BinOp → Token → AssignTree
assign_after l op t = record { span = span l.span.from t.span.to; target = l; op = Some op; value = e_literal t.span bit_type one_bit }

-- ---- declarations and initial values
abbrev pub end_of : Token → Option Part → ℕ
end_of n None = n.span.to
end_of n (Some v) = v.to

abbrev pub value_of : Option Part → Option ExprTree
value_of None = None
value_of (Some v) = Some v.tree

abbrev pub decl : Token → List ℕ → Option Part → DeclTree
decl t n v = record { span = span t.span.from (end_of t v); name = n; value = value_of v }

-- ---- a statement with the first and last byte of its tokens
pub record Done : Type 0 where
  pub from : ℕ
  pub to : ℕ
  pub stmt : StmtTree

abbrev pub row : List StmtTree → StmtRow
row [] = row_end
row (s ∷ ss) = row_more s (row ss)

abbrev pub block_tree : Token → List StmtTree → Token → StmtTree
block_tree o ss c = s_block (between o c) (row ss)

abbrev pub d_block : Token → List StmtTree → Token → Done
d_block o ss c = record { from = o.span.from; to = c.span.to; stmt = block_tree o ss c }

abbrev pub d_empty : Token → Done
d_empty t = record { from = t.span.from; to = t.span.to; stmt = s_empty t.span }

abbrev pub d_locals : TypeText → List DeclTree → Token → Done
d_locals y xs c = record { from = y.span.from; to = c.span.to; stmt = s_locals (span y.span.from c.span.to) y xs }

abbrev pub d_assign : AssignTree → Token → Done
d_assign a c = record { from = a.span.from; to = c.span.to; stmt = s_assign (span a.span.from c.span.to) a }

abbrev pub d_if : Token → Part → Done → Done
d_if t c s = record { from = t.span.from; to = s.to; stmt = s_if (span t.span.from s.to) c.tree s.stmt }

abbrev pub d_if_else : Token → Part → Done → Done → Done
d_if_else t c s z = record { from = t.span.from; to = z.to; stmt = s_if_else (span t.span.from z.to) c.tree s.stmt z.stmt }

abbrev pub d_for : Token → Option TypeText → List ℕ → Part → Part → AssignTree → Done → Done
d_for t y n start test last s =
    record { from = t.span.from; to = s.to; stmt = s_for (span t.span.from s.to) y n start.tree test.tree last s.stmt }

abbrev pub d_spawn : Token → Done → Done
d_spawn t s = record { from = t.span.from; to = s.to; stmt = s_spawn (span t.span.from s.to) s.stmt }

-- ---- pieces, states, instructions, sections
abbrev pub fixed_piece : Token → Bits → PieceText
fixed_piece t b = record { span = t.span; kind = Fixed b }

abbrev pub field_piece : Token → List ℕ → ℕ → ℕ → Token → PieceText
field_piece t n hi lo c = record { span = between t c; kind = Field n hi lo }

abbrev pub register_tree : Token → TypeText → List ℕ → Option Part → Token → StateTree
register_tree r y n v c = record { span = between r c; name = n; ty = y; kind = k_register (value_of v) }

abbrev pub table_tree : Token → TypeText → List ℕ → ℕ → List ExprTree → Token → StateTree
table_tree r y n length xs c = record { span = between r c; name = n; ty = y; kind = k_table length xs }

abbrev pub instr_tree : Token → List ℕ → List PieceText → Done → Token → InstrTree
instr_tree t n ps s c = record { span = between t c; name = n; pieces = ps; body = s.stmt }

abbrev pub always_tree : Token → List ℕ → Token → List StmtTree → Token → BlockTree
always_tree t n o ss c = record { span = between t c; name = n; body = block_tree o ss c }

abbrev pub section_tree : Token → SectionKindTree → Token → SectionTree
section_tree t kind c = record { span = between t c; kind = kind }

abbrev pub text_tree : Token → List ℕ → List SectionTree → Token → TextTree
text_tree t n xs c = record { span = between t c; name = n; sections = xs }
