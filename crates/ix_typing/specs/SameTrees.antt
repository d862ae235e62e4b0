-- Expressions that are the same but for their places in the text.
use Rattle.std.specs.Prelude.{ℕ, Bool, true, false, not, ◌&&◌, if◌then◌else◌, nat_eq}
use Rattle.ix_bits.specs.declared.number.Ty.{Ty}
use Rattle.ix_bits.specs.declared.number.Bits.{Bits}
use Rattle.ix_bits.specs.declared.operator.BinOp.{BinOp}
use Rattle.ix_bits.specs.declared.operator.BinOp.TheVariants as B
use Rattle.ix_bits.specs.declared.operator.UnOp.{UnOp}
use Rattle.ix_bits.specs.declared.operator.UnOp.TheVariants as U
use Rattle.ix_tree.specs.declared.expr.TypeKind.{TypeKind}
use Rattle.ix_tree.specs.declared.expr.TypeKind.TheVariants as T
use Rattle.ix_tree.specs.declared.expr.CastTo.{CastTo}
use Rattle.ix_tree.specs.declared.expr.CastTo.TheVariants as C
use Rattle.ix_tree.specs.Lexing.{same_bytes}
use Rattle.ix_tree.specs.Trees.{ExprTree, e_literal, e_name, e_pc, e_x, e_mem, e_index, e_range, e_unary, e_cast, e_binary, e_choose}

-- the number of an operator
abbrev pub binary_number_of : BinOp → ℕ
binary_number_of B.Add = 0
binary_number_of B.Sub = 1
binary_number_of B.Mul = 2
binary_number_of B.And = 3
binary_number_of B.Or = 4
binary_number_of B.Xor = 5
binary_number_of B.Shl = 6
binary_number_of B.Shr = 7
binary_number_of B.Eq = 8
binary_number_of B.Ne = 9
binary_number_of B.Lt = 10
binary_number_of B.Le = 11
binary_number_of B.Gt = 12
binary_number_of B.Ge = 13
binary_number_of B.Land = 14
binary_number_of B.Lor = 15
binary_number_of B.Concat = 16

abbrev pub unary_number_of : UnOp → ℕ
unary_number_of U.Neg = 0
unary_number_of U.Not = 1
unary_number_of U.Lnot = 2

abbrev pub same_sign : Bool → Bool → Bool
same_sign a b = if a then b else not b

abbrev pub same_kind : TypeKind → TypeKind → Bool
same_kind (T.Signed v) (T.Signed w) = nat_eq v w
same_kind (T.Unsigned v) (T.Unsigned w) = nat_eq v w
same_kind T.Int T.Int = true
same_kind T.Bool T.Bool = true
same_kind _ _ = false

abbrev pub same_cast : CastTo → CastTo → Bool
same_cast (C.Written v) (C.Written w) = same_kind v.kind w.kind
same_cast C.Signed C.Signed = true
same_cast C.Unsigned C.Unsigned = true
same_cast _ _ = false

abbrev pub same_literal : Ty → Bits → Ty → Bits → Bool
same_literal a x b y = same_sign a.signed b.signed && nat_eq a.width b.width && nat_eq x.raw y.raw && nat_eq x.width y.width

-- the same expression, apart from its places in the text
abbrev pub same_tree : ExprTree → ExprTree → Bool
same_tree (e_literal s a x) (e_literal t b y) = same_literal a x b y
same_tree (e_name s m) (e_name t n) = same_bytes m n
same_tree (e_pc s) (e_pc t) = true
same_tree (e_x s) (e_x t) = true
same_tree (e_mem s) (e_mem t) = true
same_tree (e_index s x i) (e_index t y j) = same_tree x y && same_tree i j
same_tree (e_range s x h l) (e_range t y i j) = same_tree x y && same_tree h i && same_tree l j
same_tree (e_unary s o x) (e_unary t p y) = nat_eq (unary_number_of o) (unary_number_of p) && same_tree x y
same_tree (e_cast s o x) (e_cast t p y) = same_cast o p && same_tree x y
same_tree (e_binary s o x v) (e_binary t p y w) = nat_eq (binary_number_of o) (binary_number_of p) && same_tree x y && same_tree v w
same_tree (e_choose s c x v) (e_choose t d y w) = same_tree c d && same_tree x y && same_tree v w
same_tree _ _ = false
