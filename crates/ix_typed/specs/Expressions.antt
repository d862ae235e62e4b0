-- Typed expressions, one case a form: which parts it has, and its type (CoreDSL 2, expressions; the exact types are this project's choice).
use Rattle.std.specs.Prelude.{◌≡◌, ℕ, ◌+◌, ◌-◌, ◌≤◌, pos, int_lt, int_le, unsigned_abs, List, [], Option, Some, None, Bool, true, false, ◌||◌}
use Rattle.ix_bits.specs.declared.number.Ty.{Ty}
use Rattle.ix_bits.specs.declared.operator.BinOp.{BinOp}
use Rattle.ix_bits.specs.declared.operator.UnOp.{UnOp}
use Rattle.ix_bits.specs.NearTypes.{type_near, int_type}
use Rattle.ix_bits.specs.ResultTypes.{is_mixed, widest, binary_signed, binary_width, unary_signed, unary_width, common_signed, common_width}
use Rattle.ix_tree.specs.declared.expr.TypeKind.{TypeKind}
use Rattle.ix_tree.specs.declared.expr.TypeKind.TheVariants as K
use Rattle.ix_tree.specs.declared.expr.CastTo.{CastTo}
use Rattle.ix_tree.specs.declared.expr.CastTo.TheVariants as C
use Rattle.ix_tree.specs.LoopHeads.{Valued, head_value}
use Rattle.ix_tree.specs.TypedTrees.{TypedExprTree, t_literal, t_name, t_pc, t_x, t_mem, t_index, t_range, t_unary, t_cast, t_binary, t_choose, type_of, erased}
use Rattle.ix_typing.specs.declared.role.Role.{Role}
use Rattle.ix_typing.specs.declared.role.Role.TheVariants as R
use Rattle.ix_typing.specs.declared.role.Shape.{Shape}
use Rattle.ix_typing.specs.declared.state.Setting.{Setting}
use Rattle.ix_typing.specs.declared.state.State.{State}
use Rattle.ix_typing.specs.declared.targets.Target.TheVariants as T
use Rattle.ix_typing.specs.Names.{role_of, is_among}
use Rattle.ix_typing.specs.Expressions.{u8, u32, embeds, is_constant, is_instruction, table, field_of, lies_in_source, is_always_below, is_constant_below, width_loaded}

-- ---- types

-- a type as written has 1 to 128 bits
abbrev pub IsWritten : TypeKind → Ty → Type 0
IsWritten (K.Signed w) ty = (w ≤ 128) × (1 ≤ w) × (ty ≡ type_near true w)
IsWritten (K.Unsigned w) ty = (w ≤ 128) × (1 ≤ w) × (ty ≡ type_near false w)
IsWritten K.Int ty = ty ≡ int_type
IsWritten K.Bool ty = ty ≡ type_near false 1

abbrev pub HasUnary : UnOp → Ty → Ty → Type 0
HasUnary op a ty = (unary_width op a ≤ 128) × (ty ≡ type_near (unary_signed op a) (unary_width op a))

-- a result has at most 128 bits, and bits of a signed and an unsigned number do not go together
abbrev pub HasBinary : BinOp → Ty → Ty → Ty → Type 0
HasBinary op a b ty = (widest op a b ≤ 128) × (is_mixed op a b ≡ false) × (ty ≡ type_near (binary_signed op a b) (binary_width op a b))

-- the smallest type that holds both
abbrev pub HasCommon : Ty → Ty → Ty → Type 0
HasCommon a b ty = (common_width a b ≤ 128) × (ty ≡ type_near (common_signed a b) (common_width a b))

abbrev pub HasCast : CastTo → Ty → Ty → Type 0
HasCast (C.Written t) a ty = IsWritten t.kind ty
HasCast C.Signed a ty = ty ≡ type_near true a.width
HasCast C.Unsigned a ty = ty ≡ type_near false a.width

-- ---- names and words

-- a name is a field, a local, or a custom register that no path wrote
abbrev pub IsRead : State → Option Role → Ty → Type 0
IsRead st None ty = ⊥
IsRead st (Some (R.Table k shape)) ty = ⊥
IsRead st (Some (R.Field f)) ty = ty ≡ f.ty
IsRead st (Some (R.Local t)) ty = ty ≡ t
IsRead st (Some (R.Register k t)) ty = (is_among st.written (T.Register k) ≡ false) × (ty ≡ t)

-- a constant has no names in it
abbrev pub IsName : Setting → State → Bool → Ty → List ℕ → Bool → Type 0
IsName g st a ty n c = (is_constant g.body ≡ false) × IsRead st (role_of st.names n) ty × (c ≡ a)

-- PC is read where no path wrote it, and in no `spawn`
abbrev pub IsPc : Setting → State → Bool → Ty → Bool → Type 0
IsPc g st a ty c = (is_constant g.body ≡ false) × (is_among st.written T.Pc ≡ false) × (g.in_spawn ≡ false) × (ty ≡ u32) × (c ≡ a)

-- X before an index stands in an instruction in which no path wrote X
abbrev pub IsX : Setting → State → Bool → Ty → Bool → Type 0
IsX g st a ty c = (is_instruction g.body ≡ true) × (is_among st.written T.Rd ≡ false) × (ty ≡ u32) × (c ≡ a)

-- MEM before an index occurs once in an instruction, and in no `spawn`
abbrev pub IsMem : Setting → Bool → Ty → Bool → Type 0
IsMem g a ty c = (is_instruction g.body ≡ true) × (a ≡ false) × (g.in_spawn ≡ false) × (ty ≡ u8) × (c ≡ true)

-- ---- indices and ranges

-- before a range stands MEM, X, or an expression
abbrev pub IsWord : Setting → State → Bool → TypedExprTree → Bool → Type 0 → Type 0
IsWord g st a (t_x s ty) c P = IsX g st a ty c
IsWord g st a (t_mem s ty) c P = IsMem g a ty c
IsWord g st a (t_literal s ty u b) c P = P
IsWord g st a (t_name s ty n) c P = P
IsWord g st a (t_pc s ty) c P = P
IsWord g st a (t_index s ty x i) c P = P
IsWord g st a (t_range s ty x h l) c P = P
IsWord g st a (t_unary s ty op x) c P = P
IsWord g st a (t_cast s ty to x) c P = P
IsWord g st a (t_binary s ty op x y) c P = P
IsWord g st a (t_choose s ty d x y) c P = P

abbrev pub IsTableOr : Bool → Ty → Option Shape → Bool → Type 0 → Type 0
IsTableOr a ty None c P = P
IsTableOr a ty (Some shape) c P = (ty ≡ shape.ty) × (c ≡ a)

-- before an index stands a table's name too
abbrev pub IsBase : Setting → State → Bool → TypedExprTree → Bool → Type 0 → Type 0
IsBase g st a (t_name s ty n) c P = IsTableOr a ty (table g st n) c P
IsBase g st a (t_x s ty) c P = IsX g st a ty c
IsBase g st a (t_mem s ty) c P = IsMem g a ty c
IsBase g st a (t_literal s ty u b) c P = P
IsBase g st a (t_pc s ty) c P = P
IsBase g st a (t_index s ty x i) c P = P
IsBase g st a (t_range s ty x h l) c P = P
IsBase g st a (t_unary s ty op x) c P = P
IsBase g st a (t_cast s ty to x) c P = P
IsBase g st a (t_binary s ty op x y) c P = P
IsBase g st a (t_choose s ty d x y) c P = P

-- bits h down to l of a number of the type `base`: constants with 0 ≤ l ≤ h < width
abbrev pub AreBits : Ty → Option Valued → Option Valued → Ty → Type 0
AreBits base None l ty = ⊥
AreBits base (Some h) None ty = ⊥
AreBits base (Some h) (Some l) ty =
    (int_le (pos 0) l.number ≡ true) × (int_le l.number h.number ≡ true) × (int_lt h.number (pos base.width) ≡ true)
    × (ty ≡ type_near false (unsigned_abs h.number - unsigned_abs l.number + 1))

-- all values of the index, or its value where it is a constant, are below the table's length
abbrev pub IsEntryOrBit : Option Shape → Ty → TypedExprTree → Ty → Type 0
IsEntryOrBit None base i ty = AreBits base (head_value (erased i) []) (head_value (erased i) []) ty
IsEntryOrBit (Some shape) base i ty = ((is_always_below (type_of i) shape.length || is_constant_below (head_value (erased i) []) shape.length) ≡ true) × (ty ≡ shape.ty)

-- an address goes into 32 bits
abbrev pub IsLoaded : Option ℕ → Ty → Ty → Type 0
IsLoaded None at ty = ⊥
IsLoaded (Some width) at ty = (embeds at u32 ≡ true) × (ty ≡ type_near false width)

-- `x[i]`: a field in the place of rs1 or rs2, a byte of memory, an entry of a table, or one bit
abbrev pub IsElement : Setting → State → TypedExprTree → TypedExprTree → Ty → Type 0
IsElement g st (t_x s u) i ty = (lies_in_source (field_of st (erased i)) ≡ true) × (ty ≡ u32)
IsElement g st (t_mem s u) i ty = IsLoaded (Some 8) (type_of i) ty
IsElement g st (t_name s u n) i ty = IsEntryOrBit (table g st n) u i ty
IsElement g st (t_literal s u v b) i ty = AreBits u (head_value (erased i) []) (head_value (erased i) []) ty
IsElement g st (t_pc s u) i ty = AreBits u (head_value (erased i) []) (head_value (erased i) []) ty
IsElement g st (t_index s u x j) i ty = AreBits u (head_value (erased i) []) (head_value (erased i) []) ty
IsElement g st (t_range s u x h l) i ty = AreBits u (head_value (erased i) []) (head_value (erased i) []) ty
IsElement g st (t_unary s u op x) i ty = AreBits u (head_value (erased i) []) (head_value (erased i) []) ty
IsElement g st (t_cast s u to x) i ty = AreBits u (head_value (erased i) []) (head_value (erased i) []) ty
IsElement g st (t_binary s u op x y) i ty = AreBits u (head_value (erased i) []) (head_value (erased i) []) ty
IsElement g st (t_choose s u c x y) i ty = AreBits u (head_value (erased i) []) (head_value (erased i) []) ty

-- `x[h:l]`: two or four bytes of memory, or bits
abbrev pub IsRange : TypedExprTree → TypedExprTree → TypedExprTree → Ty → Type 0
IsRange (t_x s u) h l ty = ⊥
IsRange (t_mem s u) h l ty = IsLoaded (width_loaded (erased h) (erased l)) (type_of l) ty
IsRange (t_name s u n) h l ty = AreBits u (head_value (erased h) []) (head_value (erased l) []) ty
IsRange (t_literal s u v b) h l ty = AreBits u (head_value (erased h) []) (head_value (erased l) []) ty
IsRange (t_pc s u) h l ty = AreBits u (head_value (erased h) []) (head_value (erased l) []) ty
IsRange (t_index s u x j) h l ty = AreBits u (head_value (erased h) []) (head_value (erased l) []) ty
IsRange (t_range s u x i j) h l ty = AreBits u (head_value (erased h) []) (head_value (erased l) []) ty
IsRange (t_unary s u op x) h l ty = AreBits u (head_value (erased h) []) (head_value (erased l) []) ty
IsRange (t_cast s u to x) h l ty = AreBits u (head_value (erased h) []) (head_value (erased l) []) ty
IsRange (t_binary s u op x y) h l ty = AreBits u (head_value (erased h) []) (head_value (erased l) []) ty
IsRange (t_choose s u c x y) h l ty = AreBits u (head_value (erased h) []) (head_value (erased l) []) ty

-- ---- expressions

-- The expression is typed. MEM occurs before it where `a` is true, and up to its end where the last argument is.
abbrev pub IsExpr : Setting → State → Bool → TypedExprTree → Bool → Type 0
IsExpr g st a (t_literal s ty u b) c = (ty ≡ u) × (c ≡ a)
IsExpr g st a (t_name s ty n) c = IsName g st a ty n c
IsExpr g st a (t_pc s ty) c = IsPc g st a ty c
IsExpr g st a (t_x s ty) c = ⊥
IsExpr g st a (t_mem s ty) c = ⊥
IsExpr g st a (t_index s ty x i) c = (b : Bool) × IsBase g st a x b (IsExpr g st a x b) × IsExpr g st b i c × IsElement g st x i ty
IsExpr g st a (t_range s ty x h l) c =
    (b : Bool) × (d : Bool) × IsWord g st a x b (IsExpr g st a x b) × IsExpr g st b h d × IsExpr g st d l c × IsRange x h l ty
IsExpr g st a (t_unary s ty op x) c = IsExpr g st a x c × HasUnary op (type_of x) ty
IsExpr g st a (t_cast s ty to x) c = IsExpr g st a x c × HasCast to (type_of x) ty
IsExpr g st a (t_binary s ty op x y) c = (b : Bool) × IsExpr g st a x b × IsExpr g st b y c × HasBinary op (type_of x) (type_of y) ty
IsExpr g st a (t_choose s ty d x y) c =
    (b : Bool) × (e : Bool) × IsExpr g st a d b × IsExpr g st b x e × IsExpr g st e y c × HasCommon (type_of x) (type_of y) ty
