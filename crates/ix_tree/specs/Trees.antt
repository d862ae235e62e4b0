-- Trees without where they lie in memory, and what each production makes of its parts.
use Rattle.std.specs.Prelude.{ℕ, ◌+◌, ◌-◌, List, [], ◌∷◌, Option, if◌then◌else◌, nat_eq, slice_index_or}
use Rattle.ix_bits.specs.declared.number.Ty.{Ty}
use Rattle.ix_bits.specs.declared.number.Bits.{Bits}
use Rattle.ix_bits.specs.declared.operator.BinOp.{BinOp}
use Rattle.ix_bits.specs.declared.operator.BinOp.TheVariants as B
use Rattle.ix_bits.specs.declared.operator.UnOp.{UnOp}
use Rattle.ix_tree.specs.declared.token.Span.{Span}
use Rattle.ix_tree.specs.declared.token.Token.{Token}
use Rattle.ix_tree.specs.declared.token.TokenKind.{TokenKind}
use Rattle.ix_tree.specs.declared.token.TokenKind.TheVariants.{Symbol}
use Rattle.ix_tree.specs.declared.expr.TypeText.{TypeText}
use Rattle.ix_tree.specs.declared.expr.CastTo.{CastTo}
use Rattle.ix_tree.specs.declared.section.PieceText.{PieceText}

-- ---- trees
pub data ExprTree : Type 0 where
  e_literal : Span → Ty → Bits → ExprTree
  e_name : Span → List ℕ → ExprTree
  e_pc : Span → ExprTree
  e_x : Span → ExprTree
  e_mem : Span → ExprTree
  e_index : Span → ExprTree → ExprTree → ExprTree
  e_range : Span → ExprTree → ExprTree → ExprTree → ExprTree
  e_unary : Span → UnOp → ExprTree → ExprTree
  e_cast : Span → CastTo → ExprTree → ExprTree
  e_binary : Span → BinOp → ExprTree → ExprTree → ExprTree
  e_choose : Span → ExprTree → ExprTree → ExprTree → ExprTree

pub data LvalueTree : Type 0 where
  l_name : List ℕ → LvalueTree
  l_pc : LvalueTree
  l_x : ExprTree → LvalueTree
  l_mem : ExprTree → Option ExprTree → LvalueTree

-- a place that is written, and the first and last byte of its tokens
pub record Place : Type 0 where
  pub span : Span
  pub tree : LvalueTree

pub record AssignTree : Type 0 where
  pub span : Span
  pub target : Place
  pub op : Option BinOp
  pub value : ExprTree

pub record DeclTree : Type 0 where
  pub span : Span
  pub name : List ℕ
  pub value : Option ExprTree

mutual
  pub data StmtTree : Type 0 where
    s_block : Span → StmtRow → StmtTree
    s_empty : Span → StmtTree
    s_locals : Span → TypeText → List DeclTree → StmtTree
    s_assign : Span → AssignTree → StmtTree
    s_if : Span → ExprTree → StmtTree → StmtTree
    s_if_else : Span → ExprTree → StmtTree → StmtTree → StmtTree
    s_for : Span → Option TypeText → List ℕ → ExprTree → ExprTree → AssignTree → StmtTree → StmtTree
    s_spawn : Span → StmtTree → StmtTree

  pub data StmtRow : Type 0 where
    row_end : StmtRow
    row_more : StmtTree → StmtRow → StmtRow

pub data StateKindTree : Type 0 where
  k_register : Option ExprTree → StateKindTree
  k_table : ℕ → List ExprTree → StateKindTree

pub record StateTree : Type 0 where
  pub span : Span
  pub name : List ℕ
  pub ty : TypeText
  pub kind : StateKindTree

pub record InstrTree : Type 0 where
  pub span : Span
  pub name : List ℕ
  pub pieces : List PieceText
  pub body : StmtTree

pub record BlockTree : Type 0 where
  pub span : Span
  pub name : List ℕ
  pub body : StmtTree

pub data SectionKindTree : Type 0 where
  k_states : List StateTree → SectionKindTree
  k_instructions : List InstrTree → SectionKindTree
  k_always : List BlockTree → SectionKindTree

pub record SectionTree : Type 0 where
  pub span : Span
  pub kind : SectionKindTree

pub record TextTree : Type 0 where
  pub span : Span
  pub name : List ℕ
  pub sections : List SectionTree

-- ---- spans
abbrev pub span : ℕ → ℕ → Span
span a b = record { from = a; to = b }

-- from the first byte of one token to the last of another
abbrev pub between : Token → Token → Span
between a b = span a.span.from b.span.to

-- ---- operators

-- How tightly a kind of token holds what stands before it: 3 and up for the operators, an odd number for each level; 2 for `?`, 26 for `[`, 1 for any other.
abbrev pub powers : List ℕ
powers =
    1 ∷ 1 ∷ 26 ∷ 1 ∷ 1 ∷ 1 ∷ 1 ∷ 1 ∷ 1 ∷ 3 ∷ 1 ∷ 1 ∷ 1 ∷ 1 ∷ 1 ∷ 1 ∷ 1 ∷ 1 ∷ 1 ∷ 1 ∷ 1
    ∷ 2 ∷ 5 ∷ 7 ∷ 9 ∷ 11 ∷ 13 ∷ 15 ∷ 15 ∷ 17 ∷ 17 ∷ 17 ∷ 17 ∷ 19 ∷ 19 ∷ 21 ∷ 21 ∷ 23 ∷ 1 ∷ 1 ∷ []

unfoldable pub power : TokenKind → ℕ
power (Symbol n) = slice_index_or powers n 1
power _ = 1

-- the operators of the symbols `||` to `*`
abbrev pub operators : List BinOp
operators =
    B.Lor ∷ B.Land ∷ B.Or ∷ B.Xor ∷ B.And ∷ B.Eq ∷ B.Ne ∷ B.Lt ∷ B.Le ∷ B.Gt ∷ B.Ge ∷ B.Shl ∷ B.Shr ∷ B.Add ∷ B.Sub ∷ B.Mul ∷ []

unfoldable pub operator_of : TokenKind → BinOp
operator_of (Symbol n) = if nat_eq n 9 then B.Concat else slice_index_or operators (n - 22) B.Add
operator_of _ = B.Add

-- ---- an expression with the first and last byte of its tokens, brackets around it too
pub record Part : Type 0 where
  pub from : ℕ
  pub to : ℕ
  pub tree : ExprTree
  -- the power of its outermost chain, and how many operators or indices that has
  pub chain : ℕ
  pub count : ℕ

-- how many operators of this power a chain has so far, if one of that power goes on
unfoldable pub before : ℕ → Part → ℕ
before p x = if nat_eq x.chain p then x.count else 0

abbrev pub p_primary : Token → ExprTree → Part
p_primary t v = record { from = t.span.from; to = t.span.to; tree = v; chain = 26; count = 0 }

abbrev pub p_unary : Token → UnOp → Part → Part
p_unary t op v = record { from = t.span.from; to = v.to; tree = e_unary (span t.span.from v.to) op v.tree; chain = 0; count = 0 }

abbrev pub p_cast : Token → CastTo → Part → Part
p_cast t to v = record { from = t.span.from; to = v.to; tree = e_cast (span t.span.from v.to) to v.tree; chain = 0; count = 0 }

abbrev pub p_binary : Part → Token → Part → Part
p_binary x t y =
    record {
      from = x.from;
      to = y.to;
      tree = e_binary (span x.from y.to) (operator_of t.kind) x.tree y.tree;
      chain = power t.kind;
      count = before (power t.kind) x + 1;
    }

abbrev pub p_round : Token → Part → Token → Part
p_round o v c = record { from = o.span.from; to = c.span.to; tree = v.tree; chain = 26; count = 0 }

abbrev pub p_index : Part → Part → Token → Part
p_index x y c =
    record { from = x.from; to = c.span.to; tree = e_index (span x.from c.span.to) x.tree y.tree; chain = 26; count = before 26 x + 1 }

abbrev pub p_range : Part → Part → Part → Token → Part
p_range x y z c =
    record { from = x.from; to = c.span.to; tree = e_range (span x.from c.span.to) x.tree y.tree z.tree; chain = 26; count = before 26 x + 1 }

abbrev pub p_choose : Part → Part → Part → Part
p_choose c x y = record { from = c.from; to = y.to; tree = e_choose (span c.from y.to) c.tree x.tree y.tree; chain = 0; count = 0 }
