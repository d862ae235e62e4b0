-- What is judged of an expression is a typed expression by its cases.
use Rattle.std.proofs.Common.{◌≡◌, ◌∙◌, sym, ap, subst, refl, ℕ, List, [], Option, Some, None, Bool, true, false, not, ◌||◌, Result, Ok}
use Rattle.std.proofs.lemmas.Bool.{false≢true}
use Rattle.ix_bits.specs.declared.number.Ty.{Ty}
use Rattle.ix_bits.specs.NearTypes.{type_near}
use Rattle.ix_tree.specs.declared.token.Span.{Span}
use Rattle.ix_tree.specs.declared.expr.CastTo.{CastTo}
use Rattle.ix_tree.specs.declared.expr.CastTo.TheVariants as C
use Rattle.ix_tree.specs.LoopHeads.{head_value}
use Rattle.ix_tree.specs.Trees.{ExprTree, e_literal, e_name, e_pc, e_x, e_mem, e_index, e_range, e_unary, e_cast, e_binary, e_choose}
use Rattle.ix_tree.specs.TypedTrees.{TypedExprTree, t_literal, t_name, t_pc, t_x, t_mem, t_index, t_range, t_unary, t_cast, t_binary, t_choose, type_of, erased}
use Rattle.ix_typing.specs.declared.role.Shape.{Shape}
use Rattle.ix_typing.specs.declared.state.Setting.{Setting}
use Rattle.ix_typing.specs.declared.state.State.{State}
use Rattle.ix_typing.specs.declared.targets.Target.TheVariants as T
use Rattle.ix_typing.specs.Names.{role_of, is_among}
use Rattle.ix_typing.specs.Refusals.{Refusal}
use Rattle.ix_typing.specs.Expressions.{Judged, Pair, judged, type_of_name, named, x_word, mem_word, word, table, table_word, based, is_constant, is_instruction, entry_or_bits, is_always_below, is_constant_below, lies_in_source, field_of, element_type, range_type, unary_type, binary_type, common_type, written, paired, cast, ranged, choose}
use Rattle.ix_typing.proofs.Erasing.{on_answer, judged_erased}
use Rattle.ix_typed.specs.Expressions.{IsName, IsX, IsMem, IsWord, IsTableOr, IsBase, IsEntryOrBit, IsElement, IsRange, IsExpr}
use Rattle.ix_typed.proofs.Parts.{on_test, on_hold, got}
use Rattle.ix_typed.proofs.Types.{is_written, is_unary, is_binary, is_common, is_read, are_bits, is_loaded}

-- what is judged is a typed expression, with its own type
pub record Formed (g : Setting) (st : State) (a : Bool) (j : Judged) : Type 0 where
  pub typed : IsExpr g st a j.tree j.accessed
  pub ty : j.ty ≡ type_of j.tree

-- ---- names and words
name_typed : (g : Setting) (st : State) (a : Bool) (s : Span) (n : List ℕ) (ty : Ty) → type_of_name g st s n ≡ Ok ty → IsName g st a ty n a
name_typed g st a s n ty e = on_test (is_constant g.body) _ _ ty _ (λ h f. (h, is_read st s (role_of st.names n) ty f, refl)) e

name_formed : (g : Setting) (st : State) (a : Bool) (s : Span) (n : List ℕ) (j : Judged) (P : Judged → Type 0)
    → ((ty : Ty) → IsName g st a ty n a → P (record { tree = t_name s ty n; ty = ty; accessed = a })) → named g st a s n ≡ Ok j → P j
name_formed g st a s n j P f e = on_answer (type_of_name g st s n) _ j _ (λ ty p q. got P _ j q (f ty (name_typed g st a s n ty p))) e

x_formed : (g : Setting) (st : State) (a : Bool) (s : Span) (j : Judged) (P : Judged → Type 0)
    → ((ty : Ty) (c : Bool) → IsX g st a ty c → P (record { tree = t_x s ty; ty = ty; accessed = c })) → x_word g st a s ≡ Ok j → P j
x_formed g st a s j P f e =
    on_test (not (is_instruction g.body)) _ _ j _ (λ h p. on_test (is_among st.written T.Rd) _ _ j _ (λ k q.
    got P _ j q (f _ _ (is_held (is_instruction g.body) h, k, refl, refl))) p) e
  where
    is_held : (b : Bool) → not b ≡ false → b ≡ true
    is_held true h = refl
    is_held false h = absurd (false≢true (sym h))

mem_formed : (g : Setting) (a : Bool) (s : Span) (j : Judged) (P : Judged → Type 0)
    → ((ty : Ty) (c : Bool) → IsMem g a ty c → P (record { tree = t_mem s ty; ty = ty; accessed = c })) → mem_word g a s ≡ Ok j → P j
mem_formed g a s j P f e =
    on_test (not (is_instruction g.body)) _ _ j _ (λ h p. on_test a _ _ j _ (λ k q. on_test g.in_spawn _ _ j _ (λ l w.
    got P _ j w (f _ _ (is_held (is_instruction g.body) h, k, l, refl, refl))) q) p) e
  where
    is_held : (b : Bool) → not b ≡ false → b ≡ true
    is_held true h = refl
    is_held false h = absurd (false≢true (sym h))

-- ---- what stands before an index or a range
abbrev is_plain : ExprTree → Bool
is_plain (e_x s) = false
is_plain (e_mem s) = false
is_plain (e_literal s ty b) = true
is_plain (e_name s n) = true
is_plain (e_pc s) = true
is_plain (e_index s x i) = true
is_plain (e_range s x y z) = true
is_plain (e_unary s op x) = true
is_plain (e_cast s to x) = true
is_plain (e_binary s op x y) = true
is_plain (e_choose s c x y) = true

abbrev is_unnamed : ExprTree → Bool
is_unnamed (e_name s n) = false
is_unnamed (e_x s) = false
is_unnamed (e_mem s) = false
is_unnamed (e_literal s ty b) = true
is_unnamed (e_pc s) = true
is_unnamed (e_index s x i) = true
is_unnamed (e_range s x y z) = true
is_unnamed (e_unary s op x) = true
is_unnamed (e_cast s to x) = true
is_unnamed (e_binary s op x y) = true
is_unnamed (e_choose s c x y) = true

plain_word : (g : Setting) (st : State) (a c : Bool) (t : TypedExprTree) (P : Type 0) → is_plain (erased t) ≡ true → P → IsWord g st a t c P
plain_word g st a c (t_x s ty) P e p = absurd (false≢true e)
plain_word g st a c (t_mem s ty) P e p = absurd (false≢true e)
plain_word g st a c (t_literal s ty u b) P e p = p
plain_word g st a c (t_name s ty n) P e p = p
plain_word g st a c (t_pc s ty) P e p = p
plain_word g st a c (t_index s ty x i) P e p = p
plain_word g st a c (t_range s ty x i j) P e p = p
plain_word g st a c (t_unary s ty op x) P e p = p
plain_word g st a c (t_cast s ty to x) P e p = p
plain_word g st a c (t_binary s ty op x y) P e p = p
plain_word g st a c (t_choose s ty d x y) P e p = p

unnamed_base : (g : Setting) (st : State) (a c : Bool) (t : TypedExprTree) (P : Type 0) → is_unnamed (erased t) ≡ true → P → IsBase g st a t c P
unnamed_base g st a c (t_x s ty) P e p = absurd (false≢true e)
unnamed_base g st a c (t_mem s ty) P e p = absurd (false≢true e)
unnamed_base g st a c (t_name s ty n) P e p = absurd (false≢true e)
unnamed_base g st a c (t_literal s ty u b) P e p = p
unnamed_base g st a c (t_pc s ty) P e p = p
unnamed_base g st a c (t_index s ty x i) P e p = p
unnamed_base g st a c (t_range s ty x i j) P e p = p
unnamed_base g st a c (t_unary s ty op x) P e p = p
unnamed_base g st a c (t_cast s ty to x) P e p = p
unnamed_base g st a c (t_binary s ty op x y) P e p = p
unnamed_base g st a c (t_choose s ty d x y) P e p = p

pub record WordFormed (g : Setting) (st : State) (a : Bool) (j : Judged) : Type 0 where
  pub typed : IsWord g st a j.tree j.accessed (IsExpr g st a j.tree j.accessed)
  pub ty : j.ty ≡ type_of j.tree

pub record BaseFormed (g : Setting) (st : State) (a : Bool) (j : Judged) : Type 0 where
  pub typed : IsBase g st a j.tree j.accessed (IsExpr g st a j.tree j.accessed)
  pub ty : j.ty ≡ type_of j.tree

plain_formed : (g : Setting) (st : State) (a : Bool) (x : ExprTree) (j : Judged) → is_plain x ≡ true → erased j.tree ≡ x → Formed g st a j → WordFormed g st a j
plain_formed g st a x j e h f = record { typed = plain_word g st a j.accessed j.tree _ (ap is_plain h ∙ e) f.typed; ty = f.ty }

unnamed_formed : (g : Setting) (st : State) (a : Bool) (x : ExprTree) (j : Judged) → is_unnamed x ≡ true → erased j.tree ≡ x → Formed g st a j → BaseFormed g st a j
unnamed_formed g st a x j e h f = record { typed = unnamed_base g st a j.accessed j.tree _ (ap is_unnamed h ∙ e) f.typed; ty = f.ty }

word_formed : (g : Setting) (st : State) (a : Bool) (x : ExprTree) (j : Judged)
    → ((i : Judged) → judged g st x a ≡ Ok i → Formed g st a i) → word g st a x (judged g st x a) ≡ Ok j → WordFormed g st a j
word_formed g st a (e_x s) j f e = x_formed g st a s j (WordFormed g st a) (λ ty c h. record { typed = h; ty = refl }) e
word_formed g st a (e_mem s) j f e = mem_formed g a s j (WordFormed g st a) (λ ty c h. record { typed = h; ty = refl }) e
word_formed g st a (e_literal s ty b) j f e = let x = e_literal s ty b in plain_formed g st a x j refl (judged_erased g st x a j e) (f j e)
word_formed g st a (e_name s n) j f e = let x = e_name s n in plain_formed g st a x j refl (judged_erased g st x a j e) (f j e)
word_formed g st a (e_pc s) j f e = let x = e_pc s in plain_formed g st a x j refl (judged_erased g st x a j e) (f j e)
word_formed g st a (e_index s y i) j f e = let x = e_index s y i in plain_formed g st a x j refl (judged_erased g st x a j e) (f j e)
word_formed g st a (e_range s y h l) j f e = let x = e_range s y h l in plain_formed g st a x j refl (judged_erased g st x a j e) (f j e)
word_formed g st a (e_unary s op y) j f e = let x = e_unary s op y in plain_formed g st a x j refl (judged_erased g st x a j e) (f j e)
word_formed g st a (e_cast s to y) j f e = let x = e_cast s to y in plain_formed g st a x j refl (judged_erased g st x a j e) (f j e)
word_formed g st a (e_binary s op y z) j f e = let x = e_binary s op y z in plain_formed g st a x j refl (judged_erased g st x a j e) (f j e)
word_formed g st a (e_choose s c y z) j f e = let x = e_choose s c y z in plain_formed g st a x j refl (judged_erased g st x a j e) (f j e)

table_formed : (g : Setting) (st : State) (a : Bool) (s : Span) (n : List ℕ) (o : Option Shape) (j : Judged) → table g st n ≡ o
    → table_word a s n o (named g st a s n) ≡ Ok j → BaseFormed g st a j
table_formed g st a s n None j t e =
    name_formed g st a s n j (BaseFormed g st a) (λ ty h.
    let P : Option Shape → Type 0 = λ z. IsTableOr a ty z a (IsName g st a ty n a) in
    record { typed = subst P (sym t) h; ty = refl }) e
table_formed g st a s n (Some shape) j t e =
    let P : Option Shape → Type 0 = λ z. IsTableOr a shape.ty z a (IsName g st a shape.ty n a) in
    got (BaseFormed g st a) _ j e (record { typed = subst P (sym t) (refl, refl); ty = refl })

base_formed : (g : Setting) (st : State) (a : Bool) (x : ExprTree) (j : Judged)
    → ((i : Judged) → judged g st x a ≡ Ok i → Formed g st a i) → based g st a x (judged g st x a) ≡ Ok j → BaseFormed g st a j
base_formed g st a (e_x s) j f e = x_formed g st a s j (BaseFormed g st a) (λ ty c h. record { typed = h; ty = refl }) e
base_formed g st a (e_mem s) j f e = mem_formed g a s j (BaseFormed g st a) (λ ty c h. record { typed = h; ty = refl }) e
base_formed g st a (e_name s n) j f e = table_formed g st a s n (table g st n) j refl e
base_formed g st a (e_literal s ty b) j f e = let x = e_literal s ty b in unnamed_formed g st a x j refl (judged_erased g st x a j e) (f j e)
base_formed g st a (e_pc s) j f e = let x = e_pc s in unnamed_formed g st a x j refl (judged_erased g st x a j e) (f j e)
base_formed g st a (e_index s y i) j f e = let x = e_index s y i in unnamed_formed g st a x j refl (judged_erased g st x a j e) (f j e)
base_formed g st a (e_range s y h l) j f e = let x = e_range s y h l in unnamed_formed g st a x j refl (judged_erased g st x a j e) (f j e)
base_formed g st a (e_unary s op y) j f e = let x = e_unary s op y in unnamed_formed g st a x j refl (judged_erased g st x a j e) (f j e)
base_formed g st a (e_cast s to y) j f e = let x = e_cast s to y in unnamed_formed g st a x j refl (judged_erased g st x a j e) (f j e)
base_formed g st a (e_binary s op y z) j f e = let x = e_binary s op y z in unnamed_formed g st a x j refl (judged_erased g st x a j e) (f j e)
base_formed g st a (e_choose s c y z) j f e = let x = e_choose s c y z in unnamed_formed g st a x j refl (judged_erased g st x a j e) (f j e)

-- ---- elements and ranges
entry_formed : (s : Span) (o : Option Shape) (base ty : Ty) (i : TypedExprTree) → entry_or_bits s o (erased i) base (type_of i) ≡ Ok ty → IsEntryOrBit o base i ty
entry_formed s None base ty i e = are_bits s base (head_value (erased i) []) (head_value (erased i) []) ty e
entry_formed s (Some shape) base ty i e =
    on_hold (is_always_below (type_of i) shape.length || is_constant_below (head_value (erased i) []) shape.length) _ _ ty _ (λ h f.
    (h, got (λ (z : Ty). z ≡ shape.ty) shape.ty ty f refl)) e

element_formed : (g : Setting) (st : State) (s : Span) (x i : TypedExprTree) (ty : Ty)
    → element_type g st s (erased x) (erased i) (type_of x) (type_of i) ≡ Ok ty → IsElement g st x i ty
element_formed g st s (t_x t u) i ty e =
    on_hold (lies_in_source (field_of st (erased i))) _ _ ty _ (λ h f. (h, got (λ (z : Ty). z ≡ type_near false 32) (type_near false 32) ty f refl)) e
element_formed g st s (t_mem t u) i ty e = is_loaded s (Some 8) (type_of i) ty e
element_formed g st s (t_name t u n) i ty e = entry_formed s (table g st n) u ty i e
element_formed g st s (t_literal t u v b) i ty e = are_bits s u (head_value (erased i) []) (head_value (erased i) []) ty e
element_formed g st s (t_pc t u) i ty e = are_bits s u (head_value (erased i) []) (head_value (erased i) []) ty e
element_formed g st s (t_index t u x j) i ty e = are_bits s u (head_value (erased i) []) (head_value (erased i) []) ty e
element_formed g st s (t_range t u x j k) i ty e = are_bits s u (head_value (erased i) []) (head_value (erased i) []) ty e
element_formed g st s (t_unary t u op x) i ty e = are_bits s u (head_value (erased i) []) (head_value (erased i) []) ty e
element_formed g st s (t_cast t u to x) i ty e = are_bits s u (head_value (erased i) []) (head_value (erased i) []) ty e
element_formed g st s (t_binary t u op x y) i ty e = are_bits s u (head_value (erased i) []) (head_value (erased i) []) ty e
element_formed g st s (t_choose t u c x y) i ty e = are_bits s u (head_value (erased i) []) (head_value (erased i) []) ty e

range_formed : (s : Span) (x h l : TypedExprTree) (ty : Ty) → range_type s (erased x) (erased h) (erased l) (type_of x) (type_of l) ≡ Ok ty → IsRange x h l ty
range_formed s (t_x t u) h l ty e = cc
range_formed s (t_mem t u) h l ty e = is_loaded s _ (type_of l) ty e
range_formed s (t_name t u n) h l ty e = are_bits s u (head_value (erased h) []) (head_value (erased l) []) ty e
range_formed s (t_literal t u v b) h l ty e = are_bits s u (head_value (erased h) []) (head_value (erased l) []) ty e
range_formed s (t_pc t u) h l ty e = are_bits s u (head_value (erased h) []) (head_value (erased l) []) ty e
range_formed s (t_index t u x j) h l ty e = are_bits s u (head_value (erased h) []) (head_value (erased l) []) ty e
range_formed s (t_range t u x j k) h l ty e = are_bits s u (head_value (erased h) []) (head_value (erased l) []) ty e
range_formed s (t_unary t u op x) h l ty e = are_bits s u (head_value (erased h) []) (head_value (erased l) []) ty e
range_formed s (t_cast t u to x) h l ty e = are_bits s u (head_value (erased h) []) (head_value (erased l) []) ty e
range_formed s (t_binary t u op x y) h l ty e = are_bits s u (head_value (erased h) []) (head_value (erased l) []) ty e
range_formed s (t_choose t u c x y) h l ty e = are_bits s u (head_value (erased h) []) (head_value (erased l) []) ty e

-- the parts that were judged, as the trees of the typed ones
element_of : (g : Setting) (st : State) (s : Span) (x i : ExprTree) (b k : Judged) (ty : Ty)
    → erased b.tree ≡ x → b.ty ≡ type_of b.tree → erased k.tree ≡ i → k.ty ≡ type_of k.tree → element_type g st s x i b.ty k.ty ≡ Ok ty → IsElement g st b.tree k.tree ty
element_of g st s x i b k ty p q u v e =
    element_formed g st s b.tree k.tree ty
    (ap (λ (z : ExprTree). element_type g st s z (erased k.tree) (type_of b.tree) (type_of k.tree)) p ∙ ap (λ (z : ExprTree). element_type g st s x z (type_of b.tree) (type_of k.tree)) u
    ∙ ap (λ (z : Ty). element_type g st s x i z (type_of k.tree)) (sym q) ∙ ap (λ (z : Ty). element_type g st s x i b.ty z) (sym v) ∙ e)

range_of : (s : Span) (x h l : ExprTree) (b m k : Judged) (ty : Ty)
    → erased b.tree ≡ x → b.ty ≡ type_of b.tree → erased m.tree ≡ h → erased k.tree ≡ l → k.ty ≡ type_of k.tree → range_type s x h l b.ty k.ty ≡ Ok ty → IsRange b.tree m.tree k.tree ty
range_of s x h l b m k ty p q u w v e =
    range_formed s b.tree m.tree k.tree ty
    (ap (λ (z : ExprTree). range_type s z (erased m.tree) (erased k.tree) (type_of b.tree) (type_of k.tree)) p ∙ ap (λ (z : ExprTree). range_type s x z (erased k.tree) (type_of b.tree) (type_of k.tree)) u
    ∙ ap (λ (z : ExprTree). range_type s x h z (type_of b.tree) (type_of k.tree)) w
    ∙ ap (λ (z : Ty). range_type s x h l z (type_of k.tree)) (sym q) ∙ ap (λ (z : Ty). range_type s x h l b.ty z) (sym v) ∙ e)

cast_formed : (g : Setting) (st : State) (a : Bool) (s : Span) (to : CastTo) (r : Result Judged Refusal) (j : Judged)
    → ((i : Judged) → r ≡ Ok i → Formed g st a i) → cast s to r ≡ Ok j → Formed g st a j
cast_formed g st a s (C.Written t) r j f e =
    on_answer (written t.span t.kind) _ j _ (λ ty p q. on_answer r _ j _ (λ i u v.
    got (Formed g st a) _ j v (record { typed = ((f i u).typed, is_written t.span t.kind ty p); ty = refl })) q) e
cast_formed g st a s C.Signed r j f e =
    on_answer r _ j _ (λ i u v. got (Formed g st a) _ j v (record { typed = ((f i u).typed, ap (λ (z : Ty). type_near true z.width) (f i u).ty); ty = refl })) e
cast_formed g st a s C.Unsigned r j f e =
    on_answer r _ j _ (λ i u v. got (Formed g st a) _ j v (record { typed = ((f i u).typed, ap (λ (z : Ty). type_near false z.width) (f i u).ty); ty = refl })) e

-- the first of two parts is the one before, and the second is judged
on_pair : (b : Judged) (r : Result Judged Refusal) (m : Pair) (G : Pair → Type 0)
    → ((k : Judged) → r ≡ Ok k → G (record { first = b; second = k })) → paired b r ≡ Ok m → G m
on_pair b r m G f e = on_answer r _ m (G m) (λ k u v. got G (record { first = b; second = k }) m v (f k u)) e

abbrev base_in : ExprTree → ExprTree → ExprTree
base_in d (e_index s x i) = x
base_in d (e_range s x h l) = x
base_in d x = d

pub expr_formed : (g : Setting) (st : State) (x : ExprTree) (a : Bool) (j : Judged) → judged g st x a ≡ Ok j → Formed g st a j
expr_formed g st (e_literal s ty b) a j e = got (Formed g st a) _ j e (record { typed = (refl, refl); ty = refl })
expr_formed g st (e_name s n) a j e = name_formed g st a s n j (Formed g st a) (λ ty h. record { typed = h; ty = refl }) e
expr_formed g st (e_pc s) a j e =
    on_test (is_constant g.body) _ _ j _ (λ h p. on_test (is_among st.written T.Pc) _ _ j _ (λ k q. on_test g.in_spawn _ _ j _ (λ l w.
    got (Formed g st a) _ j w (record { typed = (h, k, l, refl, refl); ty = refl })) q) p) e
expr_formed g st (e_x s) a j e = cc
expr_formed g st (e_mem s) a j e = cc
expr_formed g st (e_index s x i) a j e =
    on_answer (based g st a x (judged g st x a)) _ j _ (λ b p q.
    on_answer (judged g st i b.accessed) _ j _ (λ k u v.
    on_answer (element_type g st s x i b.ty k.ty) _ j _ (λ ty w z.
    let base = base_formed g st a x b (λ m h. expr_formed g st x a m h) p in
    let index = expr_formed g st i b.accessed k u in
    let tree = ap (base_in x) (judged_erased g st (e_index s x i) a _ (e ∙ sym z)) in
    got (Formed g st a) _ j z
    (record { typed = (b.accessed, base.typed, index.typed, element_of g st s x i b k ty tree base.ty (judged_erased g st i b.accessed k u) index.ty w); ty = refl })) v) q) e
expr_formed g st (e_range s x h l) a j e =
    on_answer (word g st a x (judged g st x a)) _ j _ (λ b p q.
    on_answer (paired b (judged g st h b.accessed)) _ j _ (λ m u v.
    on_pair b (judged g st h b.accessed) m (λ (m : Pair). ranged s x h l m (judged g st l m.second.accessed) ≡ Ok j → Formed g st a j) (λ i t. λ v.
    on_answer (judged g st l i.accessed) _ j _ (λ k w z.
    on_answer (range_type s x h l b.ty k.ty) _ j _ (λ ty c d.
    let base = word_formed g st a x b (λ m h. expr_formed g st x a m h) p in
    let high = expr_formed g st h b.accessed i t in
    let low = expr_formed g st l i.accessed k w in
    let tree = ap (base_in x) (judged_erased g st (e_range s x h l) a _ (e ∙ sym d)) in
    got (Formed g st a) _ j d
    (record {
      typed = (
        b.accessed,
        i.accessed,
        base.typed,
        high.typed,
        low.typed,
        range_of s x h l b i k ty tree base.ty (judged_erased g st h b.accessed i t) (judged_erased g st l i.accessed k w) low.ty c,
      );
      ty = refl;
    })) z) v) u v) q) e
expr_formed g st (e_unary s op x) a j e =
    on_answer (judged g st x a) _ j _ (λ i p q. on_answer (unary_type s op i.ty) _ j _ (λ ty u v.
    let one = expr_formed g st x a i p in
    got (Formed g st a) _ j v (record { typed = (one.typed, is_unary s op (type_of i.tree) ty (ap (unary_type s op) (sym one.ty) ∙ u)); ty = refl })) q) e
expr_formed g st (e_cast s to x) a j e = cast_formed g st a s to (judged g st x a) j (λ i h. expr_formed g st x a i h) e
expr_formed g st (e_binary s op x y) a j e =
    on_answer (judged g st x a) _ j _ (λ b p q.
    on_answer (judged g st y b.accessed) _ j _ (λ k u v.
    on_answer (binary_type s op b.ty k.ty) _ j _ (λ ty w z.
    let one = expr_formed g st x a b p in
    let two = expr_formed g st y b.accessed k u in
    got (Formed g st a) _ j z
    (record { typed = (b.accessed, one.typed, two.typed, is_binary s op (type_of b.tree) (type_of k.tree) ty (ap (λ (o : Ty). binary_type s op o (type_of k.tree)) (sym one.ty) ∙ ap (binary_type s op b.ty) (sym two.ty) ∙ w)); ty = refl })) v) q) e
expr_formed g st (e_choose s c x y) a j e =
    on_answer (judged g st c a) _ j _ (λ b p q.
    on_answer (paired b (judged g st x b.accessed)) _ j _ (λ m u v.
    on_pair b (judged g st x b.accessed) m (λ (m : Pair). choose s m (judged g st y m.second.accessed) ≡ Ok j → Formed g st a j) (λ i t. λ v.
    on_answer (judged g st y i.accessed) _ j _ (λ k w z.
    on_answer (common_type s i.ty k.ty) _ j _ (λ ty d f.
    let one = expr_formed g st c a b p in
    let two = expr_formed g st x b.accessed i t in
    let three = expr_formed g st y i.accessed k w in
    got (Formed g st a) _ j f
    (record {
      typed = (
        b.accessed,
        i.accessed,
        one.typed,
        two.typed,
        three.typed,
        is_common s (type_of i.tree) (type_of k.tree) ty (ap (λ (o : Ty). common_type s o (type_of k.tree)) (sym two.ty) ∙ ap (common_type s i.ty) (sym three.ty) ∙ d),
      );
      ty = refl;
    })) z) v) u v) q) e
