-- The types in loops' heads are those of typing.
use Rattle.std.proofs.Common.{◌≡◌, ◌∙◌, sym, ap, subst, refl, ℕ, ◌+◌, ◌-◌, List, [], Option, Some, None, Bool, true, false, ◌||◌, cond, nat_eq, ℤ, Result, Ok, Err}
use Rattle.std.specs.Prelude.{unsigned_abs, nat_lt}
use Rattle.ix_bits.specs.declared.number.Ty.{Ty}
use Rattle.ix_bits.specs.declared.operator.BinOp.{BinOp}
use Rattle.ix_bits.specs.declared.operator.UnOp.{UnOp}
use Rattle.ix_bits.specs.NearTypes.{type_near, int_type}
use Rattle.ix_bits.specs.ResultTypes.{is_mixed, widest, binary_signed, binary_width, unary_signed, unary_width, common_signed, common_width}
use Rattle.ix_bits.specs.Operators.{value_of}
use Rattle.ix_tree.specs.declared.token.Span.{Span}
use Rattle.ix_tree.specs.declared.expr.TypeKind.{TypeKind}
use Rattle.ix_tree.specs.declared.expr.TypeKind.TheVariants as K
use Rattle.ix_tree.specs.declared.expr.CastTo.{CastTo}
use Rattle.ix_tree.specs.declared.expr.CastTo.TheVariants as C
use Rattle.ix_tree.specs.LoopHeads.{Binding, Valued, value_in, valued, variable_value, written_type, unary_value, binary_value, cast_value, cast_number, cast_type, bits_value, choice_value, head_value}
use Rattle.ix_tree.specs.Trees.{ExprTree, e_literal, e_name, e_pc, e_x, e_mem, e_index, e_range, e_unary, e_cast, e_binary, e_choose}
use Rattle.ix_typing.specs.declared.role.Role.{Role}
use Rattle.ix_typing.specs.declared.role.Role.TheVariants as R
use Rattle.ix_typing.specs.declared.role.Shape.{Shape}
use Rattle.ix_typing.specs.declared.state.Setting.{Setting}
use Rattle.ix_typing.specs.declared.state.State.{State}
use Rattle.ix_typing.specs.Names.{role_of}
use Rattle.ix_typing.specs.Laws.{AreVariables}
use Rattle.ix_typing.specs.Refusals.{Refusal}
use Rattle.ix_typing.specs.Expressions.{Judged, Pair, judged, named, type_of_name, type_of_role, is_constant, based, word, paired, element_type, range_type, entry_or_bits, as_table, bits_type, unary_type, binary_type, common_type, written, sized, cast}
use Rattle.ix_typing.proofs.Erasing.{on_answer, on_pass}

-- one answer has one value
ok_same : {A : Type 0} (x y : A) (r : Result A Refusal) → r ≡ Ok x → r ≡ Ok y → x ≡ y
ok_same x y r p q = let e = sym p ∙ q in cc

some_same : {A : Type 0} (x y : A) → Some x ≡ Some y → x ≡ y
some_same x y e = cc

-- the type of a value
with_type : (b : Bool) (t : Ty) (n : ℤ) (v : Valued) → valued (cond b (Some t) None) n ≡ Some v → v.ty ≡ t
with_type true t n v e = sym (ap (λ (w : Valued). w.ty) (some_same (record { ty = t; number = n }) v e))
with_type false t n v e = cc

unary_is : (s : Span) (op : UnOp) (a ty : Ty) → unary_type s op a ≡ Ok ty → ty ≡ type_near (unary_signed op a) (unary_width op a)
unary_is s op a ty e = on_pass (nat_lt 128 (unary_width op a)) _ _ ty _ (λ h. ok_same ty _ _ h refl) e

binary_is : (s : Span) (op : BinOp) (a b ty : Ty) → binary_type s op a b ≡ Ok ty → ty ≡ type_near (binary_signed op a b) (binary_width op a b)
binary_is s op a b ty e = on_pass (nat_lt 128 (widest op a b)) _ _ ty _ (λ h. on_pass (is_mixed op a b) _ _ ty _ (λ k. ok_same ty _ _ k refl) h) e

common_is : (s : Span) (a b ty : Ty) → common_type s a b ≡ Ok ty → ty ≡ type_near (common_signed a b) (common_width a b)
common_is s a b ty e = on_pass (nat_lt 128 (common_width a b)) _ _ ty _ (λ h. ok_same ty _ _ h refl) e

-- ---- values of operations
unary_valued : (op : UnOp) (o : Option Valued) (v : Valued) (G : Type 0) → ((x : Valued) → o ≡ Some x → v.ty ≡ type_near (unary_signed op x.ty) (unary_width op x.ty) → G) → unary_value op o ≡ Some v → G
unary_valued op None v G h e = cc
unary_valued op (Some x) v G h e = h x refl (with_type _ (type_near (unary_signed op x.ty) (unary_width op x.ty)) _ v e)

typed_is : (b : Bool) (o : Option Valued) (v : Valued) → cond b None o ≡ Some v → o ≡ Some v
typed_is true o v e = cc
typed_is false o v e = e

binary_valued : (op : BinOp) (o p : Option Valued) (v : Valued) (G : Type 0)
    → ((x y : Valued) → o ≡ Some x → p ≡ Some y → v.ty ≡ type_near (binary_signed op x.ty y.ty) (binary_width op x.ty y.ty) → G) → binary_value op o p ≡ Some v → G
binary_valued op None None v G h e = cc
binary_valued op None (Some y) v G h e = cc
binary_valued op (Some x) None v G h e = cc
binary_valued op (Some x) (Some y) v G h e =
    h x y refl refl (with_type _ (type_near (binary_signed op x.ty y.ty) (binary_width op x.ty y.ty)) _ v (typed_is (is_mixed op x.ty y.ty || nat_lt 128 (widest op x.ty y.ty)) _ v e))

choice_valued : (o p q : Option Valued) (v : Valued) (G : Type 0)
    → ((c x y : Valued) → o ≡ Some c → p ≡ Some x → q ≡ Some y → v.ty ≡ type_near (common_signed x.ty y.ty) (common_width x.ty y.ty) → G) → choice_value o p q ≡ Some v → G
choice_valued None None None v G h e = cc
choice_valued None None (Some y) v G h e = cc
choice_valued None (Some x) None v G h e = cc
choice_valued None (Some x) (Some y) v G h e = cc
choice_valued (Some c) None None v G h e = cc
choice_valued (Some c) None (Some y) v G h e = cc
choice_valued (Some c) (Some x) None v G h e = cc
choice_valued (Some c) (Some x) (Some y) v G h e = h c x y refl refl refl (with_type _ (type_near (common_signed x.ty y.ty) (common_width x.ty y.ty)) _ v e)

-- ---- bits of constants
ok_cond : (b : Bool) (t ty : Ty) (x : Refusal) → cond b (Ok t) (Err x) ≡ Ok ty → ty ≡ t
ok_cond true t ty x e = ok_same ty t _ e refl
ok_cond false t ty x e = cc

some_cond : (b c : Bool) (t : Ty) (n : ℤ) (v : Valued) → cond b (valued (cond c (Some t) None) n) None ≡ Some v → v.ty ≡ t
some_cond true c t n v e = with_type c t n v e
some_cond false c t n v e = cc

bits_same : (s : Span) (base : Ty) (o p q : Option Valued) (ty : Ty) (v : Valued) → bits_type s base p q ≡ Ok ty → bits_value o p q ≡ Some v → ty ≡ v.ty
bits_same s base None None None ty v e f = cc
bits_same s base None None (Some l) ty v e f = cc
bits_same s base None (Some h) None ty v e f = cc
bits_same s base None (Some h) (Some l) ty v e f = cc
bits_same s base (Some x) None None ty v e f = cc
bits_same s base (Some x) None (Some l) ty v e f = cc
bits_same s base (Some x) (Some h) None ty v e f = cc
bits_same s base (Some x) (Some h) (Some l) ty v e f =
    let t = type_near false (unsigned_abs h.number - unsigned_abs l.number + 1) in
    ok_cond _ t ty _ e ∙ sym (some_cond _ _ t _ v f)

none_bits : (p q : Option Valued) (v : Valued) (G : Type 0) → bits_value None p q ≡ Some v → G
none_bits None None v G e = cc
none_bits None (Some y) v G e = cc
none_bits (Some x) None v G e = cc
none_bits (Some x) (Some y) v G e = cc

no_table : (b : Bool) (o : Option Role) → o ≡ Some (R.Local int_type) → cond b None (as_table o) ≡ None
no_table true o e = refl
no_table false o e = ap as_table e

variable_bits : (s : Span) (b : Bool) (o : Option Role) (i : ExprTree) (base ty : Ty) (z : Option ℤ) (p : Option Valued) (t : Ty) (v : Valued)
    → ((k : ℤ) → z ≡ Some k → o ≡ Some (R.Local int_type)) → entry_or_bits s (cond b None (as_table o)) i base ty ≡ Ok t → p ≡ head_value i [] → bits_value (variable_value z) p p ≡ Some v → t ≡ v.ty
variable_bits s b o i base ty None p t v h e q f = none_bits p p v _ f
variable_bits s b o i base ty (Some k) p t v h e q f =
    let P : Option Shape → Type 0 = λ w. entry_or_bits s w i base ty ≡ Ok t in
    let Q : Option Valued → Type 0 = λ w. bits_value (variable_value (Some k)) w w ≡ Some v in
    bits_same s base (variable_value (Some k)) (head_value i []) (head_value i []) t v (subst P (no_table b o (h k refl)) e) (subst Q q f)

element_same : (g : Setting) (st : State) (bs : List Binding) (s : Span) (x i : ExprTree) (base ty t : Ty) (v : Valued)
    → AreVariables bs st → element_type g st s x i base ty ≡ Ok t → bits_value (head_value x bs) (head_value i []) (head_value i []) ≡ Some v → t ≡ v.ty
element_same g st bs s (e_x r) i base ty t v h e f = none_bits (head_value i []) (head_value i []) v _ f
element_same g st bs s (e_mem r) i base ty t v h e f = none_bits (head_value i []) (head_value i []) v _ f
element_same g st bs s (e_name r n) i base ty t v h e f = variable_bits s (is_constant g.body) (role_of st.names n) i base ty (value_in bs n) (head_value i []) t v (λ k q. h n k q) e refl f
element_same g st bs s (e_pc r) i base ty t v h e f = none_bits (head_value i []) (head_value i []) v _ f
element_same g st bs s (e_literal r a b) i base ty t v h e f = bits_same s base (head_value (e_literal r a b) bs) (head_value i []) (head_value i []) t v e f
element_same g st bs s (e_index r a b) i base ty t v h e f = bits_same s base (head_value (e_index r a b) bs) (head_value i []) (head_value i []) t v e f
element_same g st bs s (e_range r a b c) i base ty t v h e f = bits_same s base (head_value (e_range r a b c) bs) (head_value i []) (head_value i []) t v e f
element_same g st bs s (e_unary r a b) i base ty t v h e f = bits_same s base (head_value (e_unary r a b) bs) (head_value i []) (head_value i []) t v e f
element_same g st bs s (e_cast r a b) i base ty t v h e f = bits_same s base (head_value (e_cast r a b) bs) (head_value i []) (head_value i []) t v e f
element_same g st bs s (e_binary r a b c) i base ty t v h e f = bits_same s base (head_value (e_binary r a b c) bs) (head_value i []) (head_value i []) t v e f
element_same g st bs s (e_choose r a b c) i base ty t v h e f = bits_same s base (head_value (e_choose r a b c) bs) (head_value i []) (head_value i []) t v e f

range_same : (bs : List Binding) (s : Span) (x h l : ExprTree) (base ty t : Ty) (v : Valued)
    → range_type s x h l base ty ≡ Ok t → bits_value (head_value x bs) (head_value h []) (head_value l []) ≡ Some v → t ≡ v.ty
range_same bs s (e_x r) h l base ty t v e f = cc
range_same bs s (e_mem r) h l base ty t v e f = none_bits (head_value h []) (head_value l []) v _ f
range_same bs s (e_name r n) h l base ty t v e f = bits_same s base (head_value (e_name r n) bs) (head_value h []) (head_value l []) t v e f
range_same bs s (e_pc r) h l base ty t v e f = bits_same s base None (head_value h []) (head_value l []) t v e f
range_same bs s (e_literal r a b) h l base ty t v e f = bits_same s base (head_value (e_literal r a b) bs) (head_value h []) (head_value l []) t v e f
range_same bs s (e_index r a b) h l base ty t v e f = bits_same s base (head_value (e_index r a b) bs) (head_value h []) (head_value l []) t v e f
range_same bs s (e_range r a b c) h l base ty t v e f = bits_same s base (head_value (e_range r a b c) bs) (head_value h []) (head_value l []) t v e f
range_same bs s (e_unary r a b) h l base ty t v e f = bits_same s base (head_value (e_unary r a b) bs) (head_value h []) (head_value l []) t v e f
range_same bs s (e_cast r a b) h l base ty t v e f = bits_same s base (head_value (e_cast r a b) bs) (head_value h []) (head_value l []) t v e f
range_same bs s (e_binary r a b c) h l base ty t v e f = bits_same s base (head_value (e_binary r a b c) bs) (head_value h []) (head_value l []) t v e f
range_same bs s (e_choose r a b c) h l base ty t v e f = bits_same s base (head_value (e_choose r a b c) bs) (head_value h []) (head_value l []) t v e f

-- ---- casts
sized_same : (s : Span) (g : Bool) (w : ℕ) (b : Bool) (t u : Ty) → sized s g w ≡ Ok t → cond b (Some (type_near g w)) None ≡ Some u → t ≡ u
sized_same s g w false t u e f = cc
sized_same s g w true t u e f = on_pass (nat_lt 128 w) _ _ t _ (λ h. on_pass (nat_eq w 0) _ _ t _ (λ k. ok_same t (type_near g w) _ k refl ∙ some_same (type_near g w) u f) h) e

written_same : (s : Span) (k : TypeKind) (t u : Ty) → written s k ≡ Ok t → written_type k ≡ Some u → t ≡ u
written_same s (K.Signed w) t u e f = sized_same s true w _ t u e f
written_same s (K.Unsigned w) t u e f = sized_same s false w _ t u e f
written_same s K.Int t u e f = ok_same t int_type _ e refl ∙ some_same int_type u f
written_same s K.Bool t u e f = ok_same t (type_near false 1) _ e refl ∙ some_same (type_near false 1) u f

number_ty : (o : Option Ty) (n : ℤ) (v : Valued) → cast_number o n ≡ Some v → o ≡ Some v.ty
number_ty None n v e = cc
number_ty (Some ty) n v e = ap (λ (w : Valued). Some w.ty) (some_same (record { ty = ty; number = _ }) v e)

abbrev ty_in : Result Judged Refusal → Ty → Ty
ty_in (Ok j) d = j.ty
ty_in (Err x) d = d

-- the type of an answer
of_type : (i j : Judged) (r : Result Judged Refusal) → r ≡ Ok i → r ≡ Ok j → j.ty ≡ i.ty
of_type i j r p q = sym (ap (λ (z : Result Judged Refusal). ty_in z i.ty) (sym p ∙ q))

near_cond : (b : Bool) (t u : Ty) → cond b (Some t) None ≡ Some u → t ≡ u
near_cond true t u e = some_same t u e
near_cond false t u e = cc

cast_same : (s : Span) (to : CastTo) (r : Result Judged Refusal) (o : Option Valued) (j : Judged) (v : Valued)
    → ((i : Judged) (w : Valued) → r ≡ Ok i → o ≡ Some w → i.ty ≡ w.ty) → cast s to r ≡ Ok j → cast_value to o ≡ Some v → j.ty ≡ v.ty
cast_same s to r None j v h e f = cc
cast_same s (C.Written t) r (Some w) j v h e f =
    on_answer (written t.span t.kind) _ j _ (λ ty p q. on_answer r _ j _ (λ i u z. of_type _ j _ refl z ∙ written_same t.span t.kind ty v.ty p (number_ty (written_type t.kind) w.number v f)) q) e
cast_same s C.Signed r (Some w) j v h e f =
    on_answer r _ j _ (λ i u z. of_type _ j _ refl z ∙ ap (λ (a : Ty). type_near true a.width) (h i w u refl) ∙ near_cond _ (type_near true w.ty.width) v.ty (number_ty (cast_type C.Signed w.ty) w.number v f)) e
cast_same s C.Unsigned r (Some w) j v h e f =
    on_answer r _ j _ (λ i u z. of_type _ j _ refl z ∙ ap (λ (a : Ty). type_near false a.width) (h i w u refl) ∙ near_cond _ (type_near false w.ty.width) v.ty (number_ty (cast_type C.Unsigned w.ty) w.number v f)) e

-- ---- expressions
literal_ty : (b : Bool) (w v : Valued) → cond b (Some w) None ≡ Some v → w.ty ≡ v.ty
literal_ty true w v e = ap (λ (z : Valued). z.ty) (some_same w v e)
literal_ty false w v e = cc

name_same : (g : Setting) (st : State) (a : Bool) (s : Span) (n : List ℕ) (z : Option ℤ) (j : Judged) (v : Valued)
    → ((k : ℤ) → z ≡ Some k → role_of st.names n ≡ Some (R.Local int_type)) → named g st a s n ≡ Ok j → variable_value z ≡ Some v → j.ty ≡ v.ty
name_same g st a s n None j v h e f = cc
name_same g st a s n (Some k) j v h e f =
    on_answer (type_of_name g st s n) _ j _ (λ ty p q.
    on_pass (is_constant g.body) _ _ ty _ (λ w.
    let P : Option Role → Type 0 = λ o. type_of_role st s o ≡ Ok ty in
    of_type _ j _ refl q ∙ ok_same ty int_type _ (subst P (h k refl) w) refl ∙ ap (λ (z : Valued). z.ty) (some_same (record { ty = int_type; number = k }) v f)) p) e

abbrev second_ty : Result Pair Refusal → Ty → Ty
second_ty (Ok p) d = p.second.ty
second_ty (Err x) d = d

firsts : (b : Judged) (r : Result Judged Refusal) (m : Pair) (G : Type 0) → ((j : Judged) → r ≡ Ok j → m.second.ty ≡ j.ty → G) → paired b r ≡ Ok m → G
firsts b (Err x) m G h e = cc
firsts b (Ok j) m G h e = h j refl (sym (ap (λ (z : Result Pair Refusal). second_ty z j.ty) e))

pub head_type : (g : Setting) (st : State) (bs : List Binding) (x : ExprTree) (a : Bool) (j : Judged) (v : Valued)
    → AreVariables bs st → judged g st x a ≡ Ok j → head_value x bs ≡ Some v → j.ty ≡ v.ty
head_type g st bs (e_literal s ty b) a j v h e f = of_type _ j _ refl e ∙ literal_ty (nat_eq b.width ty.width) (record { ty = ty; number = value_of ty b.raw }) v f
head_type g st bs (e_name s n) a j v h e f = name_same g st a s n (value_in bs n) j v (h n) e f
head_type g st bs (e_pc s) a j v h e f = cc
head_type g st bs (e_x s) a j v h e f = cc
head_type g st bs (e_mem s) a j v h e f = cc
head_type g st bs (e_index s x i) a j v h e f =
    on_answer (based g st a x (judged g st x a)) _ j _ (λ b p q.
    on_answer (judged g st i b.accessed) _ j _ (λ k u w.
    on_answer (element_type g st s x i b.ty k.ty) _ j _ (λ t y z. of_type _ j _ refl z ∙ element_same g st bs s x i b.ty k.ty t v h y f) w) q) e
head_type g st bs (e_range s x y l) a j v h e f =
    on_answer (word g st a x (judged g st x a)) _ j _ (λ b p q.
    on_answer (paired b (judged g st y b.accessed)) _ j _ (λ m u w.
    on_answer (judged g st l m.second.accessed) _ j _ (λ k c d.
    on_answer (range_type s x y l m.first.ty k.ty) _ j _ (λ t i z. of_type _ j _ refl z ∙ range_same bs s x y l m.first.ty k.ty t v i f) d) w) q) e
head_type g st bs (e_unary s op x) a j v h e f =
    on_answer (judged g st x a) _ j _ (λ i p q.
    on_answer (unary_type s op i.ty) _ j _ (λ ty u z.
    unary_valued op (head_value x bs) v _ (λ w o t.
    of_type _ j _ refl z ∙ unary_is s op i.ty ty u ∙ ap (λ (b : Ty). type_near (unary_signed op b) (unary_width op b)) (head_type g st bs x a i w h p o) ∙ sym t) f) q) e
head_type g st bs (e_cast s to x) a j v h e f = cast_same s to (judged g st x a) (head_value x bs) j v (λ i w p q. head_type g st bs x a i w h p q) e f
head_type g st bs (e_binary s op x y) a j v h e f =
    on_answer (judged g st x a) _ j _ (λ b p q.
    on_answer (judged g st y b.accessed) _ j _ (λ k u w.
    on_answer (binary_type s op b.ty k.ty) _ j _ (λ ty i z.
    binary_valued op (head_value x bs) (head_value y bs) v _ (λ c d m n t.
    of_type _ j _ refl z ∙ binary_is s op b.ty k.ty ty i
    ∙ ap (λ (r : Ty). type_near (binary_signed op r k.ty) (binary_width op r k.ty)) (head_type g st bs x a b c h p m)
    ∙ ap (λ (r : Ty). type_near (binary_signed op c.ty r) (binary_width op c.ty r)) (head_type g st bs y b.accessed k d h u n) ∙ sym t) f) w) q) e
head_type g st bs (e_choose s c x y) a j v h e f =
    on_answer (judged g st c a) _ j _ (λ b p q.
    on_answer (paired b (judged g st x b.accessed)) _ j _ (λ m u w.
    on_answer (judged g st y m.second.accessed) _ j _ (λ k i z.
    on_answer (common_type s m.second.ty k.ty) _ j _ (λ ty d l.
    choice_valued (head_value c bs) (head_value x bs) (head_value y bs) v _ (λ c' x' y' o o' o'' t.
    firsts b (judged g st x b.accessed) m _ (λ n r same.
    of_type _ j _ refl l ∙ common_is s m.second.ty k.ty ty d
    ∙ ap (λ (r : Ty). type_near (common_signed r k.ty) (common_width r k.ty)) (same ∙ head_type g st bs x b.accessed n x' h r o')
    ∙ ap (λ (r : Ty). type_near (common_signed x'.ty r) (common_width x'.ty r)) (head_type g st bs y m.second.accessed k y' h i o'') ∙ sym t) u) f) z) w) q) e
