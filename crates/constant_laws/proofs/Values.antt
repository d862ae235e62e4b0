-- Each constant of a text that is read has a value.
use Rattle.std.proofs.Common.{◌≡◌, ◌∙◌, sym, ap, subst, refl, ℕ, ◌+◌, ◌-◌, ◌<◌, ◌≤◌, arith, ℤ, pos, negsuc, List, [], ◌∷◌, ◌++◌, map, Option, Some, None, Bool, true, false, cond, ◌&&◌, ◌||◌}
use Rattle.std.specs.Prelude.{nat_lt, int_le, int_lt, unsigned_abs}
use Rattle.std.specs.List.{AllByRecursion}
use Rattle.std.proofs.lemmas.Bool.{ltb-true, eq-eqb, true≢false, false≢true}
use Rattle.std.proofs.lemmas.Bool.Decides.{nat_tests}
use Rattle.ix_bits.specs.declared.number.Ty.{Ty}
use Rattle.ix_bits.specs.declared.number.Bits.{Bits}
use Rattle.ix_bits.specs.declared.operator.BinOp.{BinOp}
use Rattle.ix_bits.specs.declared.operator.BinOp.TheVariants.{Add, Sub, Mul, And, Or, Xor, Shl, Shr, Eq, Ne, Lt, Le, Gt, Ge, Land, Lor, Concat}
use Rattle.ix_bits.specs.declared.operator.UnOp.{UnOp}
use Rattle.ix_bits.specs.declared.operator.UnOp.TheVariants.{Neg, Not, Lnot}
use Rattle.ix_bits.specs.NearTypes.{type_near, type_with}
use Rattle.ix_bits.specs.ResultTypes.{is_mixed, widest, binary_signed, binary_width, unary_signed, unary_width, common_signed, common_width}
use Rattle.ix_bits.specs.Operators.{pattern_of, value_of, fit, is_true, binary_number, unary_number, bits_between}
use Rattle.ix_bits.proofs.InRange.{common_some}
use Rattle.ix_bits.proofs.Same.{type_with_is}
use Rattle.ix_tree.specs.declared.expr.CastTo.{CastTo}
use Rattle.ix_tree.specs.declared.expr.CastTo.TheVariants as C
use Rattle.ix_tree.specs.declared.expr.TypeKind.{TypeKind}
use Rattle.ix_tree.specs.declared.expr.TypeKind.TheVariants as K
use Rattle.ix_tree.specs.LoopHeads.{Valued, valued, literal_value, unary_value, binary_value, written_type, cast_type, cast_number, cast_value, bits_value, choice_value, head_value}
use Rattle.ix_tree.specs.Trees.{SectionTree, SectionKindTree, k_states, k_instructions, k_always, TextTree}
use Rattle.ix_tree.specs.Unrolling.{alone_section, unrolled, Refusal, outcome_of, without_loops, first_refusal, met_sections}
use Rattle.ix_tree.specs.TypedTrees.{TypedExprTree, t_literal, t_name, t_pc, t_x, t_mem, t_index, t_range, t_unary, t_cast, t_binary, t_choose, TypedStateTree, TypedStateKindTree, tk_register, tk_table, TypedSectionTree, TypedSectionKindTree, tk_states, tk_instructions, tk_always, type_of, erased, erased_state, erased_state_kind, erased_section, erased_section_kind}
use Rattle.ix_typing.specs.declared.state.State.{State}
use Rattle.ix_typing.specs.declared.state.Front.{Front}
use Rattle.ix_typing.specs.Texts.{constant_setting, globals, global_state, no_front}
use Rattle.ix_typing.specs.Laws.{HeadLaw}
use Rattle.ix_typed.specs.Expressions.{IsWritten, HasUnary, HasBinary, HasCommon, HasCast, AreBits, IsBase, IsWord, IsElement, IsRange, IsExpr}
use Rattle.ix_typed.specs.Texts.{AreConstants, IsStateKind, AreStates, IsKind, AreSections}
use Rattle.ix_typed.specs.Laws.{TextLaw, ExprLaw}
use Rattle.ix_extension.specs.Extensions.{states_in, all_states}
use Rattle.constant_laws.specs.Constants.{HasValue, HaveValues, ConstantsLaw}
use Rattle.constant_laws.proofs.Literals.{reads_wide, HasWide, AllHaveWide, KindHasWide, StatesHaveWide, SectionHasWide, SectionsHaveWide, text_wide}

-- ---- types
near_with : (s : Bool) (w : ℕ) → 1 ≤ w → w ≤ 128 → type_with s w ≡ Some (type_near s w)
near_with s w h g = let same : (type_near s w).width ≡ w = omega arith in type_with_is (type_near s w) s w refl same

written_is : (k : TypeKind) (ty : Ty) → IsWritten k ty → written_type k ≡ Some ty
written_is (K.Signed w) ty h = near_with true w h.1 h.0 ∙ ap Some (sym h.2)
written_is (K.Unsigned w) ty h = near_with false w h.1 h.0 ∙ ap Some (sym h.2)
written_is K.Int ty h = ap Some (sym h)
written_is K.Bool ty h = ap Some (sym h)

unary_some : (op : UnOp) (a : Ty) → 1 ≤ unary_width op a
unary_some Neg a = omega arith
unary_some Not a = a.some_width
unary_some Lnot a = omega arith

binary_some : (op : BinOp) (a b : Ty) → widest op a b ≤ 128 → (1 ≤ binary_width op a b) × (binary_width op a b ≤ 128)
binary_some Add a b h = (omega arith, h)
binary_some Sub a b h = (omega arith, h)
binary_some Mul a b h = (omega (arith, a.some_width), h)
binary_some And a b h = (omega (arith, a.some_width), h)
binary_some Or a b h = (omega (arith, a.some_width), h)
binary_some Xor a b h = (omega (arith, a.some_width), h)
binary_some Shl a b h = (a.some_width, h)
binary_some Shr a b h = (a.some_width, h)
binary_some Eq a b h = (omega arith, omega arith)
binary_some Ne a b h = (omega arith, omega arith)
binary_some Lt a b h = (omega arith, omega arith)
binary_some Le a b h = (omega arith, omega arith)
binary_some Gt a b h = (omega arith, omega arith)
binary_some Ge a b h = (omega arith, omega arith)
binary_some Land a b h = (omega arith, omega arith)
binary_some Lor a b h = (omega arith, omega arith)
binary_some Concat a b h = (omega (arith, a.some_width), h)

cast_type_is : (to : CastTo) (a ty : Ty) → HasCast to a ty → cast_type to a ≡ Some ty
cast_type_is (C.Written t) a ty h = written_is t.kind ty h
cast_type_is C.Signed a ty h = near_with true a.width a.some_width a.most_width ∙ ap Some (sym h)
cast_type_is C.Unsigned a ty h = near_with false a.width a.some_width a.most_width ∙ ap Some (sym h)

-- ---- numbers
below_is : (h : ℤ) (n : ℕ) → int_le (pos 0) h ≡ true → int_lt h (pos n) ≡ true → unsigned_abs h < n
below_is (pos h) n e f = ltb-true h n f
below_is (negsuc h) n e f = cc

least_is : (l h : ℤ) → int_le (pos 0) l ≡ true → int_le l h ≡ true → int_le (pos 0) h ≡ true
least_is (pos l) (pos h) e f = grind (arith, nat_tests)
least_is (pos l) (negsuc h) e f = cc
least_is (negsuc l) h e f = cc

not_more : (n : ℕ) → n ≤ 128 → nat_lt 128 n ≡ false
not_more n h = grind (arith, nat_tests)

neither : (a b : Bool) → a ≡ false → b ≡ false → (a || b) ≡ false
neither a b e f = rw (e, f) refl

three : (a b c : Bool) → a ≡ true → b ≡ true → c ≡ true → (a && b && c) ≡ true
three a b c e f g = rw (e, f, g) refl

-- ---- values

-- a value of a type, where it is one
found : (o : Option Ty) (ty : Ty) (n : ℤ) → o ≡ Some ty → (v : Valued) × (valued o n ≡ Some v)
found o ty n e = (record { ty = ty; number = n }, ap (λ (z : Option Ty). valued z n) e)

literal_found : (u : Ty) (b : Bits) → b.width ≡ u.width → (v : Valued) × (literal_value u b ≡ Some v)
literal_found u b e =
    let v : Valued = record { ty = u; number = value_of u b.raw } in
    (v, ap (λ (t : Bool). cond t (Some v) None) (eq-eqb b.width u.width e))

unary_found : (op : UnOp) (a ty : Ty) (o : Option Valued) (x : Valued) → o ≡ Some x → a ≡ x.ty → HasUnary op a ty → (v : Valued) × (unary_value op o ≡ Some v)
unary_found op a ty o x e t h =
    let most : unary_width op x.ty ≤ 128 = subst (λ (r : Ty). unary_width op r ≤ 128) t h.0 in
    let v = found _ _ (unary_number op x.ty x.number) (near_with (unary_signed op x.ty) (unary_width op x.ty) (unary_some op x.ty) most) in
    (v.0, ap (unary_value op) e ∙ v.1)

cast_found : (to : CastTo) (a ty : Ty) (o : Option Valued) (x : Valued) → o ≡ Some x → a ≡ x.ty → HasCast to a ty → (v : Valued) × (cast_value to o ≡ Some v)
cast_found to a ty o x e t h =
    let is : cast_type to x.ty ≡ Some ty = subst (λ (r : Ty). cast_type to r ≡ Some ty) t (cast_type_is to a ty h) in
    let v : Valued = record { ty = ty; number = fit ty x.number } in
    (v, ap (cast_value to) e ∙ ap (λ (z : Option Ty). cast_number z x.number) is)

binary_found : (op : BinOp) (a b ty : Ty) (o p : Option Valued) (x y : Valued) → o ≡ Some x → p ≡ Some y → a ≡ x.ty → b ≡ y.ty → HasBinary op a b ty → (v : Valued) × (binary_value op o p ≡ Some v)
binary_found op a b ty o p x y e f t u h =
    let most : widest op x.ty y.ty ≤ 128 = subst (λ (r : Ty). widest op x.ty r ≤ 128) u (subst (λ (r : Ty). widest op r b ≤ 128) t h.0) in
    let plain : is_mixed op x.ty y.ty ≡ false = subst (λ (r : Ty). is_mixed op x.ty r ≡ false) u (subst (λ (r : Ty). is_mixed op r b ≡ false) t h.1) in
    let w = binary_some op x.ty y.ty most in
    let n = binary_number op x.ty x.number y.ty y.number in
    let v = found _ _ n (near_with (binary_signed op x.ty y.ty) (binary_width op x.ty y.ty) w.0 w.1) in (
      v.0,
      ap (λ (z : Option Valued). binary_value op z p) e ∙ ap (λ (z : Option Valued). binary_value op (Some x) z) f
          ∙ ap (λ (z : Bool). cond z None (valued (type_with (binary_signed op x.ty y.ty) (binary_width op x.ty y.ty)) n)) (neither _ _ plain (not_more (widest op x.ty y.ty) most)) ∙ v.1,
    )

choice_found : (a b ty : Ty) (o p q : Option Valued) (c x y : Valued) → o ≡ Some c → p ≡ Some x → q ≡ Some y → a ≡ x.ty → b ≡ y.ty → HasCommon a b ty → (v : Valued) × (choice_value o p q ≡ Some v)
choice_found a b ty o p q c x y d e f t u h =
    let most : common_width x.ty y.ty ≤ 128 = subst (λ (r : Ty). common_width x.ty r ≤ 128) u (subst (λ (r : Ty). common_width r b ≤ 128) t h.0) in
    let v = found _ _ (cond (is_true c.number) x.number y.number) (near_with (common_signed x.ty y.ty) (common_width x.ty y.ty) (common_some x.ty y.ty) most) in
    (v.0, ap (λ (z : Option Valued). choice_value z p q) d ∙ ap (λ (z : Option Valued). choice_value (Some c) z q) e ∙ ap (λ (z : Option Valued). choice_value (Some c) (Some x) z) f ∙ v.1)

bits_found : (base ty : Ty) (o p q : Option Valued) (x : Valued) → o ≡ Some x → base ≡ x.ty → AreBits base p q ty → (v : Valued) × (bits_value o p q ≡ Some v)
bits_found base ty o None q x e t h = absurd h
bits_found base ty o (Some k) None x e t h = absurd h
bits_found base ty o (Some k) (Some l) x e t h =
    let within : int_lt k.number (pos x.ty.width) ≡ true = subst (λ (r : Ty). int_lt k.number (pos r.width) ≡ true) t h.2 in
    let below : unsigned_abs k.number < x.ty.width = below_is k.number x.ty.width (least_is l.number k.number h.0 h.1) within in
    let n = unsigned_abs k.number - unsigned_abs l.number + 1 in
    let some : 1 ≤ n = omega arith in
    let most : n ≤ 128 = omega (arith, x.ty.most_width) in
    let z = pos (bits_between (pattern_of x.ty.width x.number) (unsigned_abs k.number) (unsigned_abs l.number)) in
    let v = found _ _ z (near_with false n some most) in
    (v.0, ap (λ (r : Option Valued). bits_value r (Some k) (Some l)) e ∙ ap (λ (r : Bool). cond r (valued (type_with false n) z) None) (three _ _ _ h.0 h.1 within) ∙ v.1)

-- ---- expressions
module _ (heads : HeadLaw) (exprs : ExprLaw) (st : State) where
  type_is : (a c : Bool) (e : TypedExprTree) (v : Valued) → IsExpr constant_setting st a e c → head_value (erased e) [] ≡ Some v → type_of e ≡ v.ty
  type_is a c e v h f =
      heads constant_setting st [] (erased e) a (record { tree = e; ty = type_of e; accessed = c }) v (λ n z k. cc) ((exprs constant_setting st a c (erased e) e).1 (record { typed = h; tree = refl })) f

  abbrev Has : TypedExprTree → Type 0
  Has e = (a c : Bool) → IsExpr constant_setting st a e c → HasWide (erased e) → HasValue e

  bits_has : (x : TypedExprTree) (a b : Bool) (ty : Ty) (p q : Option Valued) → Has x → IsExpr constant_setting st a x b → HasWide (erased x) → AreBits (type_of x) p q ty
      → (v : Valued) × (bits_value (head_value (erased x) []) p q ≡ Some v)
  bits_has x a b ty p q has h w m = let v = has a b h w in bits_found (type_of x) ty (head_value (erased x) []) p q v.0 v.1 (type_is a b x v.0 h v.1) m

  index_has : (x i : TypedExprTree) (a b : Bool) (ty : Ty) → Has x → IsBase constant_setting st a x b (IsExpr constant_setting st a x b) → HasWide (erased x) → IsElement constant_setting st x i ty
      → (v : Valued) × (bits_value (head_value (erased x) []) (head_value (erased i) []) (head_value (erased i) []) ≡ Some v)
  index_has (t_x r u) i a b ty has h w m = absurd (false≢true h.0)
  index_has (t_mem r u) i a b ty has h w m = absurd (false≢true h.0)
  index_has (t_name r u n) i a b ty has h w m = absurd (true≢false h.0)
  index_has (t_pc r u) i a b ty has h w m = absurd (true≢false h.0)
  index_has (t_literal r u f o) i a b ty has h w m = bits_has (t_literal r u f o) a b ty (head_value (erased i) []) (head_value (erased i) []) has h w m
  index_has (t_index r u x j) i a b ty has h w m = bits_has (t_index r u x j) a b ty (head_value (erased i) []) (head_value (erased i) []) has h w m
  index_has (t_range r u x j k) i a b ty has h w m = bits_has (t_range r u x j k) a b ty (head_value (erased i) []) (head_value (erased i) []) has h w m
  index_has (t_unary r u op x) i a b ty has h w m = bits_has (t_unary r u op x) a b ty (head_value (erased i) []) (head_value (erased i) []) has h w m
  index_has (t_cast r u to x) i a b ty has h w m = bits_has (t_cast r u to x) a b ty (head_value (erased i) []) (head_value (erased i) []) has h w m
  index_has (t_binary r u op x y) i a b ty has h w m = bits_has (t_binary r u op x y) a b ty (head_value (erased i) []) (head_value (erased i) []) has h w m
  index_has (t_choose r u d x y) i a b ty has h w m = bits_has (t_choose r u d x y) a b ty (head_value (erased i) []) (head_value (erased i) []) has h w m

  range_has : (x y z : TypedExprTree) (a b : Bool) (ty : Ty) → Has x → IsWord constant_setting st a x b (IsExpr constant_setting st a x b) → HasWide (erased x) → IsRange x y z ty
      → (v : Valued) × (bits_value (head_value (erased x) []) (head_value (erased y) []) (head_value (erased z) []) ≡ Some v)
  range_has (t_x r u) y z a b ty has h w m = absurd (false≢true h.0)
  range_has (t_mem r u) y z a b ty has h w m = absurd (false≢true h.0)
  range_has (t_name r u n) y z a b ty has h w m = absurd (true≢false h.0)
  range_has (t_pc r u) y z a b ty has h w m = absurd (true≢false h.0)
  range_has (t_literal r u f o) y z a b ty has h w m = bits_has (t_literal r u f o) a b ty (head_value (erased y) []) (head_value (erased z) []) has h w m
  range_has (t_index r u x j) y z a b ty has h w m = bits_has (t_index r u x j) a b ty (head_value (erased y) []) (head_value (erased z) []) has h w m
  range_has (t_range r u x j k) y z a b ty has h w m = bits_has (t_range r u x j k) a b ty (head_value (erased y) []) (head_value (erased z) []) has h w m
  range_has (t_unary r u op x) y z a b ty has h w m = bits_has (t_unary r u op x) a b ty (head_value (erased y) []) (head_value (erased z) []) has h w m
  range_has (t_cast r u to x) y z a b ty has h w m = bits_has (t_cast r u to x) a b ty (head_value (erased y) []) (head_value (erased z) []) has h w m
  range_has (t_binary r u op x j) y z a b ty has h w m = bits_has (t_binary r u op x j) a b ty (head_value (erased y) []) (head_value (erased z) []) has h w m
  range_has (t_choose r u d x j) y z a b ty has h w m = bits_has (t_choose r u d x j) a b ty (head_value (erased y) []) (head_value (erased z) []) has h w m

  has_value : (e : TypedExprTree) → Has e
  has_value (t_literal s ty u b) a c h w = literal_found u b w
  has_value (t_name s ty n) a c h w = absurd (true≢false h.0)
  has_value (t_pc s ty) a c h w = absurd (true≢false h.0)
  has_value (t_x s ty) a c h w = absurd h
  has_value (t_mem s ty) a c h w = absurd h
  has_value (t_index s ty x i) a c h w = index_has x i a h.0 ty (has_value x) h.1 w.0 h.3
  has_value (t_range s ty x y z) a c h w = range_has x y z a h.0 ty (has_value x) h.2 w.0 h.5
  has_value (t_unary s ty op x) a c h w =
      let v = has_value x a c h.0 w in
      unary_found op (type_of x) ty (head_value (erased x) []) v.0 v.1 (type_is a c x v.0 h.0 v.1) h.1
  has_value (t_cast s ty to x) a c h w =
      let v = has_value x a c h.0 w in
      cast_found to (type_of x) ty (head_value (erased x) []) v.0 v.1 (type_is a c x v.0 h.0 v.1) h.1
  has_value (t_binary s ty op x y) a c h w =
      let v = has_value x a h.0 h.1 w.0 in
      let u = has_value y h.0 c h.2 w.1 in
      binary_found op (type_of x) (type_of y) ty (head_value (erased x) []) (head_value (erased y) []) v.0 u.0 v.1 u.1 (type_is a h.0 x v.0 h.1 v.1) (type_is h.0 c y u.0 h.2 u.1) h.3
  has_value (t_choose s ty d x y) a c h w =
      let k = has_value d a h.0 h.2 w.0 in
      let v = has_value x h.0 h.1 h.3 w.1 in
      let u = has_value y h.1 c h.4 w.2 in
      choice_found (type_of x) (type_of y) ty (head_value (erased d) []) (head_value (erased x) []) (head_value (erased y) []) k.0 v.0 u.0 k.1 v.1 u.1 (type_is h.0 h.1 x v.0 h.3 v.1) (type_is h.1 c y u.0 h.4 u.1) h.5

  -- ---- registers and tables
  entries_valued : (ty : Ty) (es : List TypedExprTree) → AreConstants st ty es → AllHaveWide (map erased es) → AllByRecursion HasValue es
  entries_valued ty [] h w = tt
  entries_valued ty (e ∷ es) h w = (has_value e false h.0.0 h.0.1 w.0, entries_valued ty es h.1 w.1)

  kind_valued : (ty : Ty) (k : TypedStateKindTree) → IsStateKind st ty k → KindHasWide (erased_state_kind k) → HaveValues k
  kind_valued ty (tk_register None) h w = tt
  kind_valued ty (tk_register (Some e)) h w = has_value e false h.0 h.1 w
  kind_valued ty (tk_table n es) h w = entries_valued ty es h.0 w

  states_valued : (xs : List TypedStateTree) (k : ℕ) → AreStates st xs k → StatesHaveWide (map erased_state xs) → AllByRecursion (λ s. HaveValues s.kind) xs
  states_valued [] k h w = tt
  states_valued (x ∷ xs) k h w = (kind_valued h.0.1.0 x.kind h.0.1.2 w.0, states_valued xs (k + 1) h.1 w.1)

  section_valued : (k : TypedSectionKindTree) (f g : Front) → IsKind st k f g → SectionHasWide (erased_section_kind k) → AllByRecursion (λ s. HaveValues s.kind) (states_in k)
  section_valued (tk_states xs) f g h w = states_valued xs 0 h.1 w
  section_valued (tk_instructions xs) f g h w = tt
  section_valued (tk_always xs) f g h w = tt

  joined : (xs ys : List TypedStateTree) → AllByRecursion (λ s. HaveValues s.kind) xs → AllByRecursion (λ s. HaveValues s.kind) ys → AllByRecursion (λ s. HaveValues s.kind) (xs ++ ys)
  joined [] ys h g = g
  joined (x ∷ xs) ys h g = (h.0, joined xs ys h.1 g)

  sections_valued : (xs : List TypedSectionTree) (f : Front) → AreSections st xs f → SectionsHaveWide (map erased_section xs) → AllByRecursion (λ s. HaveValues s.kind) (all_states xs)
  sections_valued [] f h w = tt
  sections_valued (x ∷ xs) f h w = joined (states_in x.kind) (all_states xs) (section_valued x.kind f h.0 h.1 w.0) (sections_valued xs h.0 h.2 w.1)

-- ---- texts
-- the loops of a text stand in none of its registers and tables
kind_kept : (k : SectionKindTree) (x : SectionTree) → x.kind ≡ k → SectionHasWide k → SectionHasWide (alone_section x).kind
kind_kept (k_states xs) x e w = rw e w
kind_kept (k_instructions xs) x e w = rw e w
kind_kept (k_always xs) x e w = rw e w

sections_kept : (xs : List SectionTree) → SectionsHaveWide xs → SectionsHaveWide (map alone_section xs)
sections_kept [] w = tt
sections_kept (x ∷ xs) w = (kind_kept x.kind x refl w.0, sections_kept xs w.1)

unrolled_is : (t u : TextTree) (o : Option Refusal) → outcome_of t o ≡ without_loops u → unrolled t ≡ u
unrolled_is t u None e = cc
unrolled_is t u (Some r) e = cc

pub constants_law : TextLaw → ExprLaw → HeadLaw → ConstantsLaw
constants_law texts exprs heads bytes t h =
    let looped = h.tree.looped in
    let ts = h.tree.tree.tokens in
    let wide = text_wide h.tree.tree.derived.is (reads_wide h.tree.tree.lexed.reads) in
    let flat : unrolled looped ≡ h.flat = unrolled_is looped h.flat (first_refusal 0 (met_sections looped.sections)) h.tree.unrolled in
    let of = (texts h.flat t).0 h.judged in
    let same : (unrolled looped).sections ≡ map erased_section t.sections = ap (λ (x : TextTree). x.sections) (flat ∙ sym of.tree) in
    let P : List SectionTree → Type 0 = SectionsHaveWide in
    sections_valued heads exprs (global_state (globals [] (map erased_section t.sections))) t.sections no_front of.typed (subst P same (sections_kept looped.sections wide))
