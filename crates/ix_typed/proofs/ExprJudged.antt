-- A typed expression by its cases is what is judged of its tree.
use Rattle.std.proofs.Common.{◌≡◌, sym, ap, refl, ℕ, List, [], Option, Some, None, Bool, Result, Ok}
use Rattle.ix_bits.specs.declared.number.Ty.{Ty}
use Rattle.ix_tree.specs.declared.token.Span.{Span}
use Rattle.ix_tree.specs.declared.expr.CastTo.{CastTo}
use Rattle.ix_tree.specs.declared.expr.CastTo.TheVariants as C
use Rattle.ix_tree.specs.LoopHeads.{head_value}
use Rattle.ix_tree.specs.TypedTrees.{TypedExprTree, t_literal, t_name, t_pc, t_x, t_mem, t_index, t_range, t_unary, t_cast, t_binary, t_choose, type_of, erased}
use Rattle.ix_typing.specs.declared.role.Shape.{Shape}
use Rattle.ix_typing.specs.declared.state.Setting.{Setting}
use Rattle.ix_typing.specs.declared.state.State.{State}
use Rattle.ix_typing.specs.Names.{role_of}
use Rattle.ix_typing.specs.Refusals.{Refusal}
use Rattle.ix_typing.specs.Expressions.{Judged, Pair, judged, type_of_name, named, program_counter, x_word, mem_word, word, table, table_word, based, entry_or_bits, element_type, range_type, unary_type, binary_type, common_type, paired, cast}
use Rattle.ix_typed.specs.Expressions.{IsName, IsPc, IsX, IsMem, IsWord, IsTableOr, IsBase, IsEntryOrBit, IsElement, IsRange, HasCast, IsExpr}
use Rattle.ix_typed.proofs.Parts.{go}
use Rattle.ix_typed.proofs.Types.{written_is, unary_is, binary_is, common_is, read_is, bits_are, loaded_is}

-- the expression with its own type
abbrev pub made : TypedExprTree → Bool → Judged
made t c = record { tree = t; ty = type_of t; accessed = c }

name_type : (g : Setting) (st : State) (a c : Bool) (s : Span) (ty : Ty) (n : List ℕ) → IsName g st a ty n c → type_of_name g st s n ≡ Ok ty
name_type g st a c s ty n h = rw h.0 (read_is st s (role_of st.names n) ty h.1)

name_judged : (g : Setting) (st : State) (a c : Bool) (s : Span) (ty : Ty) (n : List ℕ) → IsName g st a ty n c → named g st a s n ≡ Ok (made (t_name s ty n) c)
name_judged g st a c s ty n h = go (type_of_name g st s n) ty _ _ (name_type g st a c s ty n h) (rw h.2 refl)

pc_judged : (g : Setting) (st : State) (a c : Bool) (s : Span) (ty : Ty) → IsPc g st a ty c → program_counter g st a s ≡ Ok (made (t_pc s ty) c)
pc_judged g st a c s ty h = rw (h.0, h.1, h.2, h.3, h.4) refl

x_judged : (g : Setting) (st : State) (a c : Bool) (s : Span) (ty : Ty) → IsX g st a ty c → x_word g st a s ≡ Ok (made (t_x s ty) c)
x_judged g st a c s ty h = rw (h.0, h.1, h.2, h.3) refl

mem_judged : (g : Setting) (a c : Bool) (s : Span) (ty : Ty) → IsMem g a ty c → mem_word g a s ≡ Ok (made (t_mem s ty) c)
mem_judged g a c s ty h = rw (h.0, h.1, h.2, h.3, h.4) refl

word_judged : (g : Setting) (st : State) (a c : Bool) (x : TypedExprTree) (P : Type 0) (r : Result Judged Refusal)
    → (P → r ≡ Ok (made x c)) → IsWord g st a x c P → word g st a (erased x) r ≡ Ok (made x c)
word_judged g st a c (t_x s ty) P r f h = x_judged g st a c s ty h
word_judged g st a c (t_mem s ty) P r f h = mem_judged g a c s ty h
word_judged g st a c (t_literal s ty u b) P r f h = f h
word_judged g st a c (t_name s ty n) P r f h = f h
word_judged g st a c (t_pc s ty) P r f h = f h
word_judged g st a c (t_index s ty x i) P r f h = f h
word_judged g st a c (t_range s ty x i j) P r f h = f h
word_judged g st a c (t_unary s ty op x) P r f h = f h
word_judged g st a c (t_cast s ty to x) P r f h = f h
word_judged g st a c (t_binary s ty op x y) P r f h = f h
word_judged g st a c (t_choose s ty d x y) P r f h = f h

table_judged : (a c : Bool) (s : Span) (ty : Ty) (n : List ℕ) (o : Option Shape) (P : Type 0) (r : Result Judged Refusal)
    → (P → r ≡ Ok (made (t_name s ty n) c)) → IsTableOr a ty o c P → table_word a s n o r ≡ Ok (made (t_name s ty n) c)
table_judged a c s ty n None P r f h = f h
table_judged a c s ty n (Some shape) P r f h = rw (h.0, h.1) refl

base_judged : (g : Setting) (st : State) (a c : Bool) (x : TypedExprTree) (P : Type 0) (r : Result Judged Refusal)
    → (P → r ≡ Ok (made x c)) → IsBase g st a x c P → based g st a (erased x) r ≡ Ok (made x c)
base_judged g st a c (t_x s ty) P r f h = x_judged g st a c s ty h
base_judged g st a c (t_mem s ty) P r f h = mem_judged g a c s ty h
base_judged g st a c (t_literal s ty u b) P r f h = f h
base_judged g st a c (t_name s ty n) P r f h = table_judged a c s ty n (table g st n) P r f h
base_judged g st a c (t_pc s ty) P r f h = f h
base_judged g st a c (t_index s ty x i) P r f h = f h
base_judged g st a c (t_range s ty x i j) P r f h = f h
base_judged g st a c (t_unary s ty op x) P r f h = f h
base_judged g st a c (t_cast s ty to x) P r f h = f h
base_judged g st a c (t_binary s ty op x y) P r f h = f h
base_judged g st a c (t_choose s ty d x y) P r f h = f h

entry_judged : (s : Span) (o : Option Shape) (base ty : Ty) (i : TypedExprTree) → IsEntryOrBit o base i ty → entry_or_bits s o (erased i) base (type_of i) ≡ Ok ty
entry_judged s None base ty i h = bits_are s base (head_value (erased i) []) (head_value (erased i) []) ty h
entry_judged s (Some shape) base ty i h = rw h.0 (ap (λ (z : Ty). Ok z) (sym h.1))

element_judged : (g : Setting) (st : State) (s : Span) (x i : TypedExprTree) (ty : Ty)
    → IsElement g st x i ty → element_type g st s (erased x) (erased i) (type_of x) (type_of i) ≡ Ok ty
element_judged g st s (t_x t u) i ty h = rw h.0 (ap (λ (z : Ty). Ok z) (sym h.1))
element_judged g st s (t_mem t u) i ty h = loaded_is s (Some 8) (type_of i) ty h
element_judged g st s (t_name t u n) i ty h = entry_judged s (table g st n) u ty i h
element_judged g st s (t_literal t u v b) i ty h = bits_are s u (head_value (erased i) []) (head_value (erased i) []) ty h
element_judged g st s (t_pc t u) i ty h = bits_are s u (head_value (erased i) []) (head_value (erased i) []) ty h
element_judged g st s (t_index t u x j) i ty h = bits_are s u (head_value (erased i) []) (head_value (erased i) []) ty h
element_judged g st s (t_range t u x j k) i ty h = bits_are s u (head_value (erased i) []) (head_value (erased i) []) ty h
element_judged g st s (t_unary t u op x) i ty h = bits_are s u (head_value (erased i) []) (head_value (erased i) []) ty h
element_judged g st s (t_cast t u to x) i ty h = bits_are s u (head_value (erased i) []) (head_value (erased i) []) ty h
element_judged g st s (t_binary t u op x y) i ty h = bits_are s u (head_value (erased i) []) (head_value (erased i) []) ty h
element_judged g st s (t_choose t u c x y) i ty h = bits_are s u (head_value (erased i) []) (head_value (erased i) []) ty h

range_judged : (s : Span) (x h l : TypedExprTree) (ty : Ty) → IsRange x h l ty → range_type s (erased x) (erased h) (erased l) (type_of x) (type_of l) ≡ Ok ty
range_judged s (t_x t u) h l ty w = absurd w
range_judged s (t_mem t u) h l ty w = loaded_is s _ (type_of l) ty w
range_judged s (t_name t u n) h l ty w = bits_are s u (head_value (erased h) []) (head_value (erased l) []) ty w
range_judged s (t_literal t u v b) h l ty w = bits_are s u (head_value (erased h) []) (head_value (erased l) []) ty w
range_judged s (t_pc t u) h l ty w = bits_are s u (head_value (erased h) []) (head_value (erased l) []) ty w
range_judged s (t_index t u x j) h l ty w = bits_are s u (head_value (erased h) []) (head_value (erased l) []) ty w
range_judged s (t_range t u x j k) h l ty w = bits_are s u (head_value (erased h) []) (head_value (erased l) []) ty w
range_judged s (t_unary t u op x) h l ty w = bits_are s u (head_value (erased h) []) (head_value (erased l) []) ty w
range_judged s (t_cast t u to x) h l ty w = bits_are s u (head_value (erased h) []) (head_value (erased l) []) ty w
range_judged s (t_binary t u op x y) h l ty w = bits_are s u (head_value (erased h) []) (head_value (erased l) []) ty w
range_judged s (t_choose t u c x y) h l ty w = bits_are s u (head_value (erased h) []) (head_value (erased l) []) ty w

cast_judged : (s : Span) (to : CastTo) (x : TypedExprTree) (ty : Ty) (c : Bool) (r : Result Judged Refusal)
    → r ≡ Ok (made x c) → HasCast to (type_of x) ty → cast s to r ≡ Ok (made (t_cast s ty to x) c)
cast_judged s (C.Written t) x ty c r h w = go _ ty _ _ (written_is t.span t.kind ty w) (go r (made x c) _ _ h refl)
cast_judged s C.Signed x ty c r h w = go r (made x c) _ _ h (rw w refl)
cast_judged s C.Unsigned x ty c r h w = go r (made x c) _ _ h (rw w refl)

pub expr_judged : (g : Setting) (st : State) (a : Bool) (t : TypedExprTree) (c : Bool) → IsExpr g st a t c → judged g st (erased t) a ≡ Ok (made t c)
expr_judged g st a (t_literal s ty u b) c h = rw (h.0, h.1) refl
expr_judged g st a (t_name s ty n) c h = name_judged g st a c s ty n h
expr_judged g st a (t_pc s ty) c h = pc_judged g st a c s ty h
expr_judged g st a (t_x s ty) c h = absurd h
expr_judged g st a (t_mem s ty) c h = absurd h
expr_judged g st a (t_index s ty x i) c h =
    go (based g st a (erased x) (judged g st (erased x) a)) (made x h.0) _ _ (base_judged g st a h.0 x _ (judged g st (erased x) a) (expr_judged g st a x h.0) h.1)
    (go (judged g st (erased i) h.0) (made i c) _ _ (expr_judged g st h.0 i c h.2) (go _ ty _ _ (element_judged g st s x i ty h.3) refl))
expr_judged g st a (t_range s ty x i l) c h =
    let b = h.0 in
    let d = h.1 in
    let p : Pair = record { first = made x b; second = made i d } in
    go (word g st a (erased x) (judged g st (erased x) a)) (made x b) _ _ (word_judged g st a b x _ (judged g st (erased x) a) (expr_judged g st a x b) h.2)
    (go (paired (made x b) (judged g st (erased i) b)) p _ _ (go (judged g st (erased i) b) (made i d) _ _ (expr_judged g st b i d h.3) refl)
    (go (judged g st (erased l) d) (made l c) _ _ (expr_judged g st d l c h.4) (go _ ty _ _ (range_judged s x i l ty h.5) refl)))
expr_judged g st a (t_unary s ty op x) c h =
    go (judged g st (erased x) a) (made x c) _ _ (expr_judged g st a x c h.0) (go (unary_type s op (type_of x)) ty _ _ (unary_is s op (type_of x) ty h.1) refl)
expr_judged g st a (t_cast s ty to x) c h = cast_judged s to x ty c (judged g st (erased x) a) (expr_judged g st a x c h.0) h.1
expr_judged g st a (t_binary s ty op x y) c h =
    go (judged g st (erased x) a) (made x h.0) _ _ (expr_judged g st a x h.0 h.1)
    (go (judged g st (erased y) h.0) (made y c) _ _ (expr_judged g st h.0 y c h.2)
    (go (binary_type s op (type_of x) (type_of y)) ty _ _ (binary_is s op (type_of x) (type_of y) ty h.3) refl))
expr_judged g st a (t_choose s ty d x y) c h =
    let b = h.0 in
    let e = h.1 in
    let p : Pair = record { first = made d b; second = made x e } in
    go (judged g st (erased d) a) (made d b) _ _ (expr_judged g st a d b h.2)
    (go (paired (made d b) (judged g st (erased x) b)) p _ _ (go (judged g st (erased x) b) (made x e) _ _ (expr_judged g st b x e h.3) refl)
    (go (judged g st (erased y) e) (made y c) _ _ (expr_judged g st e y c h.4)
    (go (common_type s (type_of x) (type_of y)) ty _ _ (common_is s (type_of x) (type_of y) ty h.5) refl)))
