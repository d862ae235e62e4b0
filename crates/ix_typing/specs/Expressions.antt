-- The types of expressions, or the first rule that one breaks: operands before their operator, left to right (CoreDSL 2, expressions; the exact types, the rules and their order are this project's choice).
use Rattle.std.specs.Prelude.{ℕ, ◌+◌, ◌-◌, ◌^◌, pos, int_lt, int_le, unsigned_abs, List, [], Option, Some, None, Bool, true, false, not, ◌&&◌, ◌||◌, if◌then◌else◌, nat_eq, nat_le, nat_lt, Result, Ok}
use Rattle.ix_bits.specs.declared.number.Ty.{Ty}
use Rattle.ix_bits.specs.declared.number.Bits.{Bits}
use Rattle.ix_bits.specs.declared.operator.BinOp.{BinOp}
use Rattle.ix_bits.specs.declared.operator.BinOp.TheVariants as Op
use Rattle.ix_bits.specs.declared.operator.UnOp.{UnOp}
use Rattle.ix_bits.specs.NearTypes.{type_near, int_type}
use Rattle.ix_bits.specs.ResultTypes.{is_mixed, widest, binary_signed, binary_width, unary_signed, unary_width, common_signed, common_width}
use Rattle.ix_tree.specs.declared.token.Span.{Span}
use Rattle.ix_tree.specs.declared.expr.TypeKind.{TypeKind}
use Rattle.ix_tree.specs.declared.expr.TypeKind.TheVariants as K
use Rattle.ix_tree.specs.declared.expr.CastTo.{CastTo}
use Rattle.ix_tree.specs.declared.expr.CastTo.TheVariants as C
use Rattle.ix_tree.specs.LoopHeads.{Valued, head_value}
use Rattle.ix_tree.specs.Trees.{ExprTree, e_literal, e_name, e_pc, e_x, e_mem, e_index, e_range, e_unary, e_cast, e_binary, e_choose}
use Rattle.ix_tree.specs.TypedTrees.{TypedExprTree, t_literal, t_name, t_pc, t_x, t_mem, t_index, t_range, t_unary, t_cast, t_binary, t_choose}
use Rattle.ix_typing.specs.declared.role.Role.{Role}
use Rattle.ix_typing.specs.declared.role.Role.TheVariants as R
use Rattle.ix_typing.specs.declared.role.Field.{Field}
use Rattle.ix_typing.specs.declared.role.Shape.{Shape}
use Rattle.ix_typing.specs.declared.state.Body.{Body}
use Rattle.ix_typing.specs.declared.state.Body.TheVariants as B
use Rattle.ix_typing.specs.declared.state.Setting.{Setting}
use Rattle.ix_typing.specs.declared.state.State.{State}
use Rattle.ix_typing.specs.declared.targets.Target.{Target}
use Rattle.ix_typing.specs.declared.targets.Target.TheVariants as T
use Rattle.ix_typing.specs.Names.{role_of, is_among}
use Rattle.ix_typing.specs.Refusals.{Refusal, unknown, too_wide, mixed, range, index, read_after_write, second_access, in_spawn, rom, refuse, and_then}
use Rattle.ix_typing.specs.SameTrees.{same_tree}

-- an expression with its types, its own type, and whether MEM occurs up to its end
pub record Judged : Type 0 where
  pub tree : TypedExprTree
  pub ty : Ty
  pub accessed : Bool

-- two expressions, one behind the other
pub record Pair : Type 0 where
  pub first : Judged
  pub second : Judged

-- ---- types
abbrev pub u8 : Ty
u8 = type_near false 8

abbrev pub u32 : Ty
u32 = type_near false 32

-- the second type holds each number of the first
abbrev pub embeds : Ty → Ty → Bool
embeds a b =
    if a.signed then b.signed && nat_le a.width b.width
    else if b.signed then nat_lt a.width b.width
    else nat_le a.width b.width

-- a type of a written width: no wider than 128 bits, and not of 0
abbrev pub sized : Span → Bool → ℕ → Result Ty Refusal
sized s signed width =
    if nat_lt 128 width then refuse too_wide s
    else if nat_eq width 0 then refuse range s
    else Ok (type_near signed width)

abbrev pub written : Span → TypeKind → Result Ty Refusal
written s (K.Signed width) = sized s true width
written s (K.Unsigned width) = sized s false width
written s K.Int = Ok int_type
written s K.Bool = Ok (type_near false 1)

abbrev pub unary_type : Span → UnOp → Ty → Result Ty Refusal
unary_type s op a = if nat_lt 128 (unary_width op a) then refuse too_wide s else Ok (type_near (unary_signed op a) (unary_width op a))

abbrev pub binary_type : Span → BinOp → Ty → Ty → Result Ty Refusal
binary_type s op a b =
    if nat_lt 128 (widest op a b) then refuse too_wide s
    else if is_mixed op a b then refuse mixed s
    else Ok (type_near (binary_signed op a b) (binary_width op a b))

-- the smallest type that holds both
abbrev pub common_type : Span → Ty → Ty → Result Ty Refusal
common_type s a b = if nat_lt 128 (common_width a b) then refuse too_wide s else Ok (type_near (common_signed a b) (common_width a b))

-- ---- names, PC, and the words X and MEM
abbrev pub is_constant : Body → Bool
is_constant B.Constant = true
is_constant B.Instruction = false
is_constant B.Always = false

abbrev pub is_instruction : Body → Bool
is_instruction B.Constant = false
is_instruction B.Instruction = true
is_instruction B.Always = false

-- a target that may be read: no path wrote it before
abbrev pub read : State → Span → Target → Ty → Result Ty Refusal
read st s t ty = if is_among st.written t then refuse read_after_write s else Ok ty

abbrev pub type_of_role : State → Span → Option Role → Result Ty Refusal
type_of_role st s None = refuse unknown s
type_of_role st s (Some (R.Table k shape)) = refuse unknown s
type_of_role st s (Some (R.Field f)) = Ok f.ty
type_of_role st s (Some (R.Local ty)) = Ok ty
type_of_role st s (Some (R.Register k ty)) = read st s (T.Register k) ty

abbrev pub type_of_name : Setting → State → Span → List ℕ → Result Ty Refusal
type_of_name g st s n = if is_constant g.body then refuse unknown s else type_of_role st s (role_of st.names n)

abbrev pub named : Setting → State → Bool → Span → List ℕ → Result Judged Refusal
named g st a s n = and_then (type_of_name g st s n) (λ ty. Ok (record { tree = t_name s ty n; ty = ty; accessed = a }))

abbrev pub program_counter : Setting → State → Bool → Span → Result Judged Refusal
program_counter g st a s =
    if is_constant g.body then refuse unknown s
    else if is_among st.written T.Pc then refuse read_after_write s
    else if g.in_spawn then refuse in_spawn s
    else Ok (record { tree = t_pc s u32; ty = u32; accessed = a })

-- X before an index
abbrev pub x_word : Setting → State → Bool → Span → Result Judged Refusal
x_word g st a s =
    if not (is_instruction g.body) then refuse index s
    else if is_among st.written T.Rd then refuse read_after_write s
    else Ok (record { tree = t_x s u32; ty = u32; accessed = a })

-- MEM before an index
abbrev pub mem_word : Setting → Bool → Span → Result Judged Refusal
mem_word g a s =
    if not (is_instruction g.body) then refuse index s
    else if a then refuse second_access s
    else if g.in_spawn then refuse in_spawn s
    else Ok (record { tree = t_mem s u8; ty = u8; accessed = true })

-- ---- indices and ranges

-- what stands before a range: X and MEM are words alone there
abbrev pub word : Setting → State → Bool → ExprTree → Result Judged Refusal → Result Judged Refusal
word g st a (e_x s) r = x_word g st a s
word g st a (e_mem s) r = mem_word g a s
word g st a _ r = r

abbrev pub as_table : Option Role → Option Shape
as_table (Some (R.Table k shape)) = Some shape
as_table _ = None

-- the table of a name, if it is one; a constant has no tables in it
abbrev pub table : Setting → State → List ℕ → Option Shape
table g st n = if is_constant g.body then None else as_table (role_of st.names n)

abbrev pub table_word : Bool → Span → List ℕ → Option Shape → Result Judged Refusal → Result Judged Refusal
table_word a s n None r = r
table_word a s n (Some shape) r = Ok (record { tree = t_name s shape.ty n; ty = shape.ty; accessed = a })

-- what stands before an index: a table's name too
abbrev pub based : Setting → State → Bool → ExprTree → Result Judged Refusal → Result Judged Refusal
based g st a (e_name s n) r = table_word a s n (table g st n) r
based g st a x r = word g st a x r

abbrev pub as_field : Option Role → Option Field
as_field (Some (R.Field f)) = Some f
as_field _ = None

-- the field that an expression names, if it does
abbrev pub field_of : State → ExprTree → Option Field
field_of st (e_name s n) = as_field (role_of st.names n)
field_of st _ = None

-- the field lies exactly in bits 19 to 15 or 24 to 20 of the word
abbrev pub lies_in_source : Option Field → Bool
lies_in_source None = false
lies_in_source (Some f) = nat_eq f.count 5 && (f.is_rs1 || f.is_rs2)

-- the field lies exactly in bits 11 to 7 of the word
abbrev pub lies_in_destination : Option Field → Bool
lies_in_destination None = false
lies_in_destination (Some f) = nat_eq f.count 5 && f.is_rd

abbrev pub register_type : State → Span → ExprTree → Result Ty Refusal
register_type st s i = if lies_in_source (field_of st i) then Ok u32 else refuse index s

-- what is loaded or stored, of this width, at an address of type `at`
abbrev pub loaded_type : Span → ℕ → Ty → Result Ty Refusal
loaded_type s width at = if embeds at u32 then Ok (type_near false width) else refuse index s

-- each number of the type is from 0 to below the length
abbrev pub is_always_below : Ty → ℕ → Bool
is_always_below ty length = not ty.signed && nat_le (2 ^ ty.width) length

abbrev pub is_constant_below : Option Valued → ℕ → Bool
is_constant_below None length = false
is_constant_below (Some v) length = int_le (pos 0) v.number && int_lt v.number (pos length)

abbrev pub entry_type : Span → Shape → ExprTree → Ty → Result Ty Refusal
entry_type s shape i ty = if is_always_below ty shape.length || is_constant_below (head_value i []) shape.length then Ok shape.ty else refuse rom s

-- bits h down to l of a number of the type, which are constants with 0 ≤ l ≤ h < width
abbrev pub bits_type : Span → Ty → Option Valued → Option Valued → Result Ty Refusal
bits_type s ty (Some h) (Some l) =
    if int_le (pos 0) l.number && int_le l.number h.number && int_lt h.number (pos ty.width)
    then Ok (type_near false (unsigned_abs h.number - unsigned_abs l.number + 1))
    else refuse range s
bits_type s ty _ _ = refuse range s

abbrev pub entry_or_bits : Span → Option Shape → ExprTree → Ty → Ty → Result Ty Refusal
entry_or_bits s None i base ty = bits_type s base (head_value i []) (head_value i [])
entry_or_bits s (Some shape) i base ty = entry_type s shape i ty

-- the type of `x[i]`, where x has the type `base` and i the type `ty`
abbrev pub element_type : Setting → State → Span → ExprTree → ExprTree → Ty → Ty → Result Ty Refusal
element_type g st s (e_x t) i base ty = register_type st s i
element_type g st s (e_mem t) i base ty = loaded_type s 8 ty
element_type g st s (e_name t n) i base ty = entry_or_bits s (table g st n) i base ty
element_type g st s _ i base ty = bits_type s base (head_value i []) (head_value i [])

-- the width of `MEM[h:l]`: h is `l+1` or `l+3`
abbrev pub width_by : ExprTree → Option ℕ
width_by (e_literal s ty b) = if nat_eq b.raw 1 then Some 16 else if nat_eq b.raw 3 then Some 32 else None
width_by _ = None

abbrev pub width_of_sum : BinOp → ExprTree → ExprTree → ExprTree → Option ℕ
width_of_sum Op.Add a by l = if same_tree a l then width_by by else None
width_of_sum _ a by l = None

abbrev pub width_loaded : ExprTree → ExprTree → Option ℕ
width_loaded (e_binary s op a by) l = width_of_sum op a by l
width_loaded _ l = None

abbrev pub loaded_range : Span → Option ℕ → Ty → Result Ty Refusal
loaded_range s None at = refuse index s
loaded_range s (Some width) at = loaded_type s width at

-- the type of `x[h:l]`, where x has the type `base` and l the type `ty`
abbrev pub range_type : Span → ExprTree → ExprTree → ExprTree → Ty → Ty → Result Ty Refusal
range_type s (e_x t) h l base ty = refuse index s
range_type s (e_mem t) h l base ty = loaded_range s (width_loaded h l) ty
range_type s _ h l base ty = bits_type s base (head_value h []) (head_value l [])

-- ---- expressions of judged parts
abbrev pub literal : Span → Ty → Bits → Bool → Judged
literal s ty b a = record { tree = t_literal s ty ty b; ty = ty; accessed = a }

abbrev pub paired : Judged → Result Judged Refusal → Result Pair Refusal
paired x r = and_then r (λ y. Ok (record { first = x; second = y }))

abbrev pub indexed : Setting → State → Span → ExprTree → ExprTree → Judged → Result Judged Refusal → Result Judged Refusal
indexed g st s x i b r =
    and_then r (λ j. and_then (element_type g st s x i b.ty j.ty) (λ ty. Ok (record { tree = t_index s ty b.tree j.tree; ty = ty; accessed = j.accessed })))

abbrev pub ranged : Span → ExprTree → ExprTree → ExprTree → Pair → Result Judged Refusal → Result Judged Refusal
ranged s x h l p r =
    and_then r (λ j. and_then (range_type s x h l p.first.ty j.ty) (λ ty. Ok (record { tree = t_range s ty p.first.tree p.second.tree j.tree; ty = ty; accessed = j.accessed })))

abbrev pub unary : Span → UnOp → Result Judged Refusal → Result Judged Refusal
unary s op r = and_then r (λ x. and_then (unary_type s op x.ty) (λ ty. Ok (record { tree = t_unary s ty op x.tree; ty = ty; accessed = x.accessed })))

abbrev pub casted : Span → CastTo → Ty → Judged → Judged
casted s to ty x = record { tree = t_cast s ty to x.tree; ty = ty; accessed = x.accessed }

-- a cast: the written type is judged before the operand
abbrev pub cast : Span → CastTo → Result Judged Refusal → Result Judged Refusal
cast s (C.Written t) r = and_then (written t.span t.kind) (λ ty. and_then r (λ x. Ok (casted s (C.Written t) ty x)))
cast s C.Signed r = and_then r (λ x. Ok (casted s C.Signed (type_near true x.ty.width) x))
cast s C.Unsigned r = and_then r (λ x. Ok (casted s C.Unsigned (type_near false x.ty.width) x))

abbrev pub binary : Span → BinOp → Judged → Result Judged Refusal → Result Judged Refusal
binary s op x r = and_then r (λ y. and_then (binary_type s op x.ty y.ty) (λ ty. Ok (record { tree = t_binary s ty op x.tree y.tree; ty = ty; accessed = y.accessed })))

abbrev pub choose : Span → Pair → Result Judged Refusal → Result Judged Refusal
choose s p r = and_then r (λ y. and_then (common_type s p.second.ty y.ty) (λ ty. Ok (record { tree = t_choose s ty p.first.tree p.second.tree y.tree; ty = ty; accessed = y.accessed })))

-- The expression with its types, or the first rule that it breaks. MEM occurs before it where `a` is true.
abbrev pub judged : Setting → State → ExprTree → Bool → Result Judged Refusal
judged g st (e_literal s ty b) a = Ok (literal s ty b a)
judged g st (e_name s n) a = named g st a s n
judged g st (e_pc s) a = program_counter g st a s
judged g st (e_x s) a = refuse index s
judged g st (e_mem s) a = refuse index s
judged g st (e_index s x i) a = and_then (based g st a x (judged g st x a)) (λ b. indexed g st s x i b (judged g st i b.accessed))
judged g st (e_range s x h l) a =
    and_then (word g st a x (judged g st x a)) (λ b. and_then (paired b (judged g st h b.accessed)) (λ p. ranged s x h l p (judged g st l p.second.accessed)))
judged g st (e_unary s op x) a = unary s op (judged g st x a)
judged g st (e_cast s to x) a = cast s to (judged g st x a)
judged g st (e_binary s op x y) a = and_then (judged g st x a) (λ b. binary s op b (judged g st y b.accessed))
judged g st (e_choose s c x y) a =
    and_then (judged g st c a) (λ b. and_then (paired b (judged g st x b.accessed)) (λ p. choose s p (judged g st y p.second.accessed)))
