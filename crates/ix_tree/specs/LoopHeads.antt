-- The types and numbers of the expressions in a loop's head (CoreDSL 2, integer expressions; the exact types, and that a loop's variable has the type `int` there, are this project's choice).
use Rattle.std.specs.Prelude.{ℕ, ◌+◌, ◌-◌, ℤ, pos, int_lt, int_le, unsigned_abs, List, [], ◌∷◌, Option, Some, None, Bool, true, false, ◌&&◌, ◌||◌, if◌then◌else◌, nat_eq, nat_lt}
use Rattle.ix_bits.specs.declared.number.Ty.{Ty}
use Rattle.ix_bits.specs.declared.number.Bits.{Bits}
use Rattle.ix_bits.specs.declared.operator.BinOp.{BinOp}
use Rattle.ix_bits.specs.declared.operator.UnOp.{UnOp}
use Rattle.ix_bits.specs.Types.{least_of, past_of}
use Rattle.ix_bits.specs.NearTypes.{type_with, int_type}
use Rattle.ix_bits.specs.ResultTypes.{is_mixed, widest, binary_signed, binary_width, unary_signed, unary_width, common_signed, common_width}
use Rattle.ix_bits.specs.Operators.{pattern_of, value_of, fit, is_true, binary_number, unary_number, bits_between}
use Rattle.ix_tree.specs.declared.expr.TypeKind.{TypeKind}
use Rattle.ix_tree.specs.declared.expr.TypeKind.TheVariants as T
use Rattle.ix_tree.specs.declared.expr.CastTo.{CastTo}
use Rattle.ix_tree.specs.declared.expr.CastTo.TheVariants as C
use Rattle.ix_tree.specs.Lexing.{same_bytes}
use Rattle.ix_tree.specs.Trees.{ExprTree, e_literal, e_name, e_pc, e_x, e_mem, e_index, e_range, e_unary, e_cast, e_binary, e_choose}

-- ---- loop variables and their values, the innermost first
pub record Binding : Type 0 where
  pub name : List ℕ
  pub value : ℤ

-- the value of a name; nested loops have different variables
abbrev pub value_in : List Binding → List ℕ → Option ℤ
value_in [] n = None
value_in (b ∷ bs) n = if same_bytes b.name n then Some b.value else value_in bs n

-- ---- types
-- the number is one of the type `int`
abbrev pub is_int : ℤ → Bool
is_int n = int_le (least_of true 32) n && int_lt n (past_of true 32)

abbrev pub written_type : TypeKind → Option Ty
written_type (T.Signed width) = type_with true width
written_type (T.Unsigned width) = type_with false width
written_type T.Int = Some int_type
written_type T.Bool = type_with false 1

-- what a cast of a number of type ty goes to
abbrev pub cast_type : CastTo → Ty → Option Ty
cast_type (C.Written t) ty = written_type t.kind
cast_type C.Signed ty = type_with true ty.width
cast_type C.Unsigned ty = type_with false ty.width

-- ---- values
-- an expression's type and its number
pub record Valued : Type 0 where
  pub ty : Ty
  pub number : ℤ

abbrev pub valued : Option Ty → ℤ → Option Valued
valued None n = None
valued (Some ty) n = Some (record { ty = ty; number = n })

-- a literal's pattern has the width of its type
abbrev pub literal_value : Ty → Bits → Option Valued
literal_value ty b = if nat_eq b.width ty.width then Some (record { ty = ty; number = value_of ty b.raw }) else None

abbrev pub variable_value : Option ℤ → Option Valued
variable_value None = None
variable_value (Some n) = Some (record { ty = int_type; number = n })

abbrev pub unary_value : UnOp → Option Valued → Option Valued
unary_value op None = None
unary_value op (Some x) = valued (type_with (unary_signed op x.ty) (unary_width op x.ty)) (unary_number op x.ty x.number)

abbrev pub typed_binary : BinOp → Valued → Valued → Option Valued
typed_binary op x y =
    if is_mixed op x.ty y.ty || nat_lt 128 (widest op x.ty y.ty) then None
    else valued (type_with (binary_signed op x.ty y.ty) (binary_width op x.ty y.ty)) (binary_number op x.ty x.number y.ty y.number)

abbrev pub binary_value : BinOp → Option Valued → Option Valued → Option Valued
binary_value op (Some x) (Some y) = typed_binary op x y
binary_value op _ _ = None

abbrev pub cast_number : Option Ty → ℤ → Option Valued
cast_number None n = None
cast_number (Some ty) n = Some (record { ty = ty; number = fit ty n })

abbrev pub cast_value : CastTo → Option Valued → Option Valued
cast_value to None = None
cast_value to (Some x) = cast_number (cast_type to x.ty) x.number

-- bits h down to l of a number's pattern, where 0 ≤ l ≤ h < width
abbrev pub bits_at : Valued → ℤ → ℤ → Option Valued
bits_at x h l =
    if int_le (pos 0) l && int_le l h && int_lt h (pos x.ty.width)
    then valued (type_with false (unsigned_abs h - unsigned_abs l + 1)) (pos (bits_between (pattern_of x.ty.width x.number) (unsigned_abs h) (unsigned_abs l)))
    else None

abbrev pub bits_value : Option Valued → Option Valued → Option Valued → Option Valued
bits_value (Some x) (Some h) (Some l) = bits_at x h.number l.number
bits_value _ _ _ = None

abbrev pub chosen : Valued → Valued → Valued → Option Valued
chosen c x y = valued (type_with (common_signed x.ty y.ty) (common_width x.ty y.ty)) (if is_true c.number then x.number else y.number)

abbrev pub choice_value : Option Valued → Option Valued → Option Valued → Option Valued
choice_value (Some c) (Some x) (Some y) = chosen c x y
choice_value _ _ _ = None

-- The value of an expression of literals and the variables bs: none where it has anything else in it, or no type. An index of bits is of literals alone.
abbrev pub head_value : ExprTree → List Binding → Option Valued
head_value (e_literal s ty b) bs = literal_value ty b
head_value (e_name s n) bs = variable_value (value_in bs n)
head_value (e_pc s) bs = None
head_value (e_x s) bs = None
head_value (e_mem s) bs = None
head_value (e_index s e l) bs = bits_value (head_value e bs) (head_value l []) (head_value l [])
head_value (e_range s e h l) bs = bits_value (head_value e bs) (head_value h []) (head_value l [])
head_value (e_unary s op e) bs = unary_value op (head_value e bs)
head_value (e_cast s to e) bs = cast_value to (head_value e bs)
head_value (e_binary s op e f) bs = binary_value op (head_value e bs) (head_value f bs)
head_value (e_choose s c e f) bs = choice_value (head_value c bs) (head_value e bs) (head_value f bs)
