-- The value that an expression of literals has in a loop's head is its number.
use Rattle.std.proofs.Common.{◌≡◌, ◌∙◌, sym, ap, subst, refl, ℕ, ◌+◌, ◌-◌, ◌%◌, ◌^◌, ◌<◌, ℤ, pos, List, [], Option, Some, None, Bool, true, false, cond, ◌&&◌, ◌||◌, nat_eq}
use Rattle.std.specs.Prelude.{nat_lt, int_le, int_lt, unsigned_abs}
use Rattle.std.proofs.lemmas.Bool.{eqb-true}
use Rattle.std.proofs.Math.Nat.{mod-eq_of_lt}
use Rattle.ix_bits.specs.declared.number.Ty.{Ty}
use Rattle.ix_bits.specs.declared.number.Bits.{Bits}
use Rattle.ix_bits.specs.declared.operator.BinOp.{BinOp}
use Rattle.ix_bits.specs.declared.operator.UnOp.{UnOp}
use Rattle.ix_bits.specs.declared.operator.UnOp.TheVariants as U
use Rattle.ix_bits.specs.NearTypes.{type_near, type_with}
use Rattle.ix_bits.specs.ResultTypes.{is_mixed, widest, common_signed, common_width, binary_signed, binary_width, unary_signed, unary_width}
use Rattle.ix_bits.specs.Operators.{pattern_of, value_of, fit, is_true, binary_number, unary_number, bits_between}
use Rattle.ix_tree.specs.declared.expr.CastTo.{CastTo}
use Rattle.ix_tree.specs.declared.expr.CastTo.TheVariants as C
use Rattle.ix_tree.specs.LoopHeads.{Valued, valued, literal_value, unary_value, binary_value, cast_type, cast_number, cast_value, bits_value, choice_value, head_value}
use Rattle.ix_tree.specs.TypedTrees.{TypedExprTree, t_literal, t_name, t_pc, t_x, t_mem, t_index, t_range, t_unary, t_cast, t_binary, t_choose, type_of, erased}
use Rattle.ix_typing.specs.declared.state.Setting.{Setting}
use Rattle.ix_typing.specs.declared.state.State.{State}
use Rattle.ix_typed.specs.Expressions.{HasUnary, HasBinary, HasCommon, HasCast, AreBits, IsBase, IsWord, IsElement, IsRange, IsExpr}
use Rattle.ix_mean.specs.Core.{Expression, x_const, x_one, x_cast, x_two, x_choose, type_of_expression}
use Rattle.ix_mean.specs.Meaning.{Inputs, one_number, number}
use Rattle.ix_mean.specs.Typing.{is_constant}
use Rattle.ix_mean.specs.ByName.{Names}
use Rattle.ix_mean.specs.Resolving.{Slot, unary_kind, no_inputs, constant, bits, resolved_index, resolved_range, resolved}
use Rattle.ix_behaviour.proofs.Types.{written_is, near_with}

-- an expression of literals alone has this type and this number
pub record IsValued (e : Expression) (ty : Ty) (v : Valued) : Type 0 where
  pub constant : is_constant e ≡ true
  pub typed : type_of_expression e ≡ ty
  pub ty_is : ty ≡ v.ty
  pub number_is : (i : Inputs) (s : List ℤ) → number i s e ≡ v.number

pub some_same : {A : Type 0} (x y : A) → Some x ≡ Some y → x ≡ y
some_same x y e = cc

valued_parts : (o : Option Ty) (n : ℤ) (v : Valued) → valued o n ≡ Some v → (o ≡ Some v.ty) × (n ≡ v.number)
valued_parts None n v e = cc
valued_parts (Some ty) n v e =
    let same = some_same (record { ty = ty; number = n }) v e in (ap (λ (z : Valued). Some z.ty) same, ap (λ (z : Valued). z.number) same)

with_parts : (b : Bool) (t : Ty) (n : ℤ) (v : Valued) → valued (cond b (Some t) None) n ≡ Some v → (v.ty ≡ t) × (n ≡ v.number)
with_parts true t n v e = let h = valued_parts (Some t) n v e in (sym (some_same t v.ty h.0), h.1)
with_parts false t n v e = cc

-- ---- literals
pub literal_parts : (b : Bool) (w v : Valued) → cond b (Some w) None ≡ Some v → (b ≡ true) × (w ≡ v)
literal_parts true w v e = (refl, some_same w v e)
literal_parts false w v e = cc

literal_valued : (ty u : Ty) (b : Bits) (v : Valued) → ty ≡ u → literal_value u b ≡ Some v → IsValued (x_const ty (b.raw % 2 ^ ty.width)) ty v
literal_valued ty u b v h e =
    let p = literal_parts (nat_eq b.width u.width) (record { ty = u; number = value_of u b.raw }) v e in
    let w : b.width ≡ u.width = eqb-true b.width u.width p.0 in
    let below : b.raw < 2 ^ u.width = subst (λ (n : ℕ). b.raw < 2 ^ n) w b.in_width in
    let whole : b.raw % 2 ^ u.width ≡ b.raw = mod-eq_of_lt below in
    record {
      constant = refl;
      typed = refl;
      ty_is = h ∙ ap (λ (z : Valued). z.ty) p.1;
      number_is = λ i s. ap (λ (t : Ty). value_of t (b.raw % 2 ^ t.width)) h ∙ ap (value_of u) whole ∙ ap (λ (z : Valued). z.number) p.1;
    }

-- ---- operators
pub unary_parts : (op : UnOp) (o : Option Valued) (v : Valued) (G : Type 0)
    → ((x : Valued) → o ≡ Some x → v.ty ≡ type_near (unary_signed op x.ty) (unary_width op x.ty) → unary_number op x.ty x.number ≡ v.number → G) → unary_value op o ≡ Some v → G
unary_parts op None v G h e = cc
unary_parts op (Some x) v G h e = let p = with_parts _ (type_near (unary_signed op x.ty) (unary_width op x.ty)) _ v e in h x refl p.0 p.1

kind_is : (op : UnOp) (a ty : Ty) (z : ℤ) → one_number (unary_kind op) a ty z ≡ unary_number op a z
kind_is U.Neg a ty z = refl
kind_is U.Not a ty z = refl
kind_is U.Lnot a ty z = refl

unary_valued : (op : UnOp) (e : Expression) (a ty : Ty) (x v : Valued) → IsValued e a x → HasUnary op a ty
    → v.ty ≡ type_near (unary_signed op x.ty) (unary_width op x.ty) → unary_number op x.ty x.number ≡ v.number → IsValued (x_one (unary_kind op) ty e) ty v
unary_valued op e a ty x v h t f g = record {
  constant = h.constant;
  typed = refl;
  ty_is = t.1 ∙ ap (λ (r : Ty). type_near (unary_signed op r) (unary_width op r)) h.ty_is ∙ sym f;
  number_is = λ i s.
      kind_is op (type_of_expression e) ty (number i s e) ∙ ap (λ (r : Ty). unary_number op r (number i s e)) (h.typed ∙ h.ty_is) ∙ ap (unary_number op x.ty) (h.number_is i s) ∙ g;
}

pub binary_parts : (op : BinOp) (o p : Option Valued) (v : Valued) (G : Type 0)
    → ((x y : Valued) → o ≡ Some x → p ≡ Some y → v.ty ≡ type_near (binary_signed op x.ty y.ty) (binary_width op x.ty y.ty) → binary_number op x.ty x.number y.ty y.number ≡ v.number → G)
    → binary_value op o p ≡ Some v → G
binary_parts op None None v G h e = cc
binary_parts op None (Some y) v G h e = cc
binary_parts op (Some x) None v G h e = cc
binary_parts op (Some x) (Some y) v G h e = by (is_mixed op x.ty y.ty || nat_lt 128 (widest op x.ty y.ty)) e
  where
    by : (b : Bool) → cond b None (valued (type_with (binary_signed op x.ty y.ty) (binary_width op x.ty y.ty)) (binary_number op x.ty x.number y.ty y.number)) ≡ Some v → G
    by true f = cc
    by false f = let p = with_parts _ (type_near (binary_signed op x.ty y.ty) (binary_width op x.ty y.ty)) _ v f in h x y refl refl p.0 p.1

both_constant : (a b : Bool) → a ≡ true → b ≡ true → (a && b) ≡ true
both_constant true true e f = refl
both_constant true false e f = f
both_constant false b e f = e

binary_valued : (op : BinOp) (e f : Expression) (a b ty : Ty) (x y v : Valued) → IsValued e a x → IsValued f b y → HasBinary op a b ty
    → v.ty ≡ type_near (binary_signed op x.ty y.ty) (binary_width op x.ty y.ty) → binary_number op x.ty x.number y.ty y.number ≡ v.number → IsValued (x_two op ty e f) ty v
binary_valued op e f a b ty x y v h g t m n = record {
  constant = both_constant (is_constant e) (is_constant f) h.constant g.constant;
  typed = refl;
  ty_is = t.2 ∙ ap (λ (r : Ty). type_near (binary_signed op r b) (binary_width op r b)) h.ty_is ∙ ap (λ (r : Ty). type_near (binary_signed op x.ty r) (binary_width op x.ty r)) g.ty_is ∙ sym m;
  number_is = λ i s.
      ap (λ (r : Ty). binary_number op r (number i s e) (type_of_expression f) (number i s f)) (h.typed ∙ h.ty_is)
      ∙ ap (λ (r : Ty). binary_number op x.ty (number i s e) r (number i s f)) (g.typed ∙ g.ty_is)
      ∙ ap (λ (z : ℤ). binary_number op x.ty z y.ty (number i s f)) (h.number_is i s)
      ∙ ap (λ (z : ℤ). binary_number op x.ty x.number y.ty z) (g.number_is i s) ∙ n;
}

-- ---- casts
pub cast_parts : (to : CastTo) (o : Option Valued) (v : Valued) (G : Type 0) → ((x : Valued) → o ≡ Some x → cast_type to x.ty ≡ Some v.ty → fit v.ty x.number ≡ v.number → G) → cast_value to o ≡ Some v → G
cast_parts to None v G h e = cc
cast_parts to (Some x) v G h e = by (cast_type to x.ty) refl e
  where
    by : (o : Option Ty) → cast_type to x.ty ≡ o → cast_number o x.number ≡ Some v → G
    by None r f = cc
    by (Some ty) r f =
        let same = some_same (record { ty = ty; number = fit ty x.number }) v f in
        let t : ty ≡ v.ty = ap (λ (z : Valued). z.ty) same in
        h x refl (r ∙ ap Some t) (ap (λ (u : Ty). fit u x.number) (sym t) ∙ ap (λ (z : Valued). z.number) same)

pub cast_is : (to : CastTo) (a ty u : Ty) → HasCast to a ty → cast_type to a ≡ Some u → ty ≡ u
cast_is (C.Written t) a ty u h e = some_same ty u (sym (written_is t.kind ty h) ∙ e)
cast_is C.Signed a ty u h e = h ∙ some_same (type_near true a.width) u (sym (near_with true a.width a.some_width a.most_width) ∙ e)
cast_is C.Unsigned a ty u h e = h ∙ some_same (type_near false a.width) u (sym (near_with false a.width a.some_width a.most_width) ∙ e)

cast_valued : (to : CastTo) (e : Expression) (a ty : Ty) (x v : Valued) → IsValued e a x → HasCast to a ty → cast_type to x.ty ≡ Some v.ty → fit v.ty x.number ≡ v.number → IsValued (x_cast ty e) ty v
cast_valued to e a ty x v h t f g =
    let same : ty ≡ v.ty = cast_is to a ty v.ty t (ap (cast_type to) h.ty_is ∙ f) in
    record {
      constant = h.constant;
      typed = refl;
      ty_is = same;
      number_is = λ i s. ap (λ (u : Ty). fit u (number i s e)) same ∙ ap (fit v.ty) (h.number_is i s) ∙ g;
    }

-- ---- choices
pub choice_parts : (o p q : Option Valued) (v : Valued) (G : Type 0)
    → ((c x y : Valued) → o ≡ Some c → p ≡ Some x → q ≡ Some y → v.ty ≡ type_near (common_signed x.ty y.ty) (common_width x.ty y.ty) → cond (is_true c.number) x.number y.number ≡ v.number → G)
    → choice_value o p q ≡ Some v → G
choice_parts None None None v G h e = cc
choice_parts None None (Some y) v G h e = cc
choice_parts None (Some x) None v G h e = cc
choice_parts None (Some x) (Some y) v G h e = cc
choice_parts (Some c) None None v G h e = cc
choice_parts (Some c) None (Some y) v G h e = cc
choice_parts (Some c) (Some x) None v G h e = cc
choice_parts (Some c) (Some x) (Some y) v G h e = let p = with_parts _ (type_near (common_signed x.ty y.ty) (common_width x.ty y.ty)) _ v e in h c x y refl refl refl p.0 p.1

choice_valued : (d e f : Expression) (t a b ty : Ty) (c x y v : Valued) → IsValued d t c → IsValued e a x → IsValued f b y → HasCommon a b ty
    → v.ty ≡ type_near (common_signed x.ty y.ty) (common_width x.ty y.ty) → cond (is_true c.number) x.number y.number ≡ v.number → IsValued (x_choose ty d e f) ty v
choice_valued d e f t a b ty c x y v h g k u m n = record {
  constant = both_constant (is_constant d && is_constant e) (is_constant f) (both_constant (is_constant d) (is_constant e) h.constant g.constant) k.constant;
  typed = refl;
  ty_is = u.1 ∙ ap (λ (r : Ty). type_near (common_signed r b) (common_width r b)) g.ty_is ∙ ap (λ (r : Ty). type_near (common_signed x.ty r) (common_width x.ty r)) k.ty_is ∙ sym m;
  number_is = λ i s.
      ap (λ (z : ℤ). cond (is_true z) (number i s e) (number i s f)) (h.number_is i s)
      ∙ ap (λ (z : ℤ). cond (is_true c.number) z (number i s f)) (g.number_is i s)
      ∙ ap (λ (z : ℤ). cond (is_true c.number) x.number z) (k.number_is i s) ∙ n;
}

-- ---- bits
pub bits_parts : (o p q : Option Valued) (v : Valued) (G : Type 0)
    → ((x h l : Valued) → o ≡ Some x → p ≡ Some h → q ≡ Some l → v.ty ≡ type_near false (unsigned_abs h.number - unsigned_abs l.number + 1)
    → pos (bits_between (pattern_of x.ty.width x.number) (unsigned_abs h.number) (unsigned_abs l.number)) ≡ v.number → G)
    → bits_value o p q ≡ Some v → G
bits_parts None None None v G h e = cc
bits_parts None None (Some y) v G h e = cc
bits_parts None (Some x) None v G h e = cc
bits_parts None (Some x) (Some y) v G h e = cc
bits_parts (Some c) None None v G h e = cc
bits_parts (Some c) None (Some y) v G h e = cc
bits_parts (Some c) (Some x) None v G h e = cc
bits_parts (Some c) (Some x) (Some y) v G h e = by (int_le (pos 0) y.number && int_le y.number x.number && int_lt x.number (pos c.ty.width)) e
  where
    by : (b : Bool) → cond b (valued (type_with false (unsigned_abs x.number - unsigned_abs y.number + 1)) (pos (bits_between (pattern_of c.ty.width c.number) (unsigned_abs x.number) (unsigned_abs y.number)))) None ≡ Some v → G
    by true f = let p = with_parts _ (type_near false (unsigned_abs x.number - unsigned_abs y.number + 1)) _ v f in h c x y refl refl refl p.0 p.1
    by false f = cc

-- the type that bits between these values have
pub of_bits : (base : Ty) (o p : Option Valued) (ty : Ty) (h l : Valued) → AreBits base o p ty → o ≡ Some h → p ≡ Some l → ty ≡ type_near false (unsigned_abs h.number - unsigned_abs l.number + 1)
of_bits base o p ty h l a e f =
    let P : Option Valued → Type 0 = λ z. AreBits base z p ty in
    let Q : Option Valued → Type 0 = λ z. AreBits base (Some h) z ty in
    (subst Q f (subst P e a)).3

pub place_is : (e : Expression) (ty : Ty) (v : Valued) → IsValued e ty v → constant e ≡ unsigned_abs v.number
place_is e ty v h = ap unsigned_abs (h.number_is no_inputs [])

bits_valued : (base d e : Expression) (a t u ty : Ty) (x h l v : Valued) → IsValued base a x → IsValued d t h → IsValued e u l
    → ty ≡ type_near false (unsigned_abs h.number - unsigned_abs l.number + 1)
    → v.ty ≡ type_near false (unsigned_abs h.number - unsigned_abs l.number + 1)
    → pos (bits_between (pattern_of x.ty.width x.number) (unsigned_abs h.number) (unsigned_abs l.number)) ≡ v.number → IsValued (bits ty base d e) ty v
bits_valued base d e a t u ty x h l v p q r m f g = record {
  constant = p.constant;
  typed = refl;
  ty_is = m ∙ sym f;
  number_is = λ i s.
      ap (λ (n : ℕ). pos (bits_between (pattern_of (type_of_expression base).width (number i s base)) n (constant e))) (place_is d t h q)
      ∙ ap (λ (n : ℕ). pos (bits_between (pattern_of (type_of_expression base).width (number i s base)) (unsigned_abs h.number) n)) (place_is e u l r)
      ∙ ap (λ (b : Ty). pos (bits_between (pattern_of b.width (number i s base)) (unsigned_abs h.number) (unsigned_abs l.number))) (p.typed ∙ p.ty_is)
      ∙ ap (λ (z : ℤ). pos (bits_between (pattern_of x.ty.width z) (unsigned_abs h.number) (unsigned_abs l.number))) (p.number_is i s) ∙ g;
}

none_bits : (p q : Option Valued) (v : Valued) (G : Type 0) → bits_value None p q ≡ Some v → G
none_bits p q v G e = bits_parts None p q v G (λ x h l o. cc) e

-- ---- expressions
-- bits of an expression that has a value
module _ (ns : Names) (ls : List Slot) (g : Setting) (st : State) where
  abbrev Values : TypedExprTree → Type 0
  Values e = (a c : Bool) (v : Valued) → IsExpr g st a e c → head_value (erased e) [] ≡ Some v → IsValued (resolved ns ls e) (type_of e) v

  bit_valued : (x i : TypedExprTree) (a b c : Bool) (ty : Ty) (v : Valued) → Values x → Values i → IsExpr g st a x b → IsExpr g st b i c
      → AreBits (type_of x) (head_value (erased i) []) (head_value (erased i) []) ty
      → bits_value (head_value (erased x) []) (head_value (erased i) []) (head_value (erased i) []) ≡ Some v
      → IsValued (bits ty (resolved ns ls x) (resolved ns ls i) (resolved ns ls i)) ty v
  bit_valued x i a b c ty v p q m n w e =
      bits_parts (head_value (erased x) []) (head_value (erased i) []) (head_value (erased i) []) v _ (λ y h l o r u f k.
      bits_valued (resolved ns ls x) (resolved ns ls i) (resolved ns ls i) (type_of x) (type_of i) (type_of i) ty y h l v (p a b y m o) (q b c h n r) (q b c l n u)
      (of_bits (type_of x) (head_value (erased i) []) (head_value (erased i) []) ty h l w r u) f k) e

  range_valued : (x y z : TypedExprTree) (a b d c : Bool) (ty : Ty) (v : Valued) → Values x → Values y → Values z → IsExpr g st a x b → IsExpr g st b y d → IsExpr g st d z c
      → AreBits (type_of x) (head_value (erased y) []) (head_value (erased z) []) ty
      → bits_value (head_value (erased x) []) (head_value (erased y) []) (head_value (erased z) []) ≡ Some v
      → IsValued (bits ty (resolved ns ls x) (resolved ns ls y) (resolved ns ls z)) ty v
  range_valued x y z a b d c ty v p q s m n t w e =
      bits_parts (head_value (erased x) []) (head_value (erased y) []) (head_value (erased z) []) v _ (λ j h l o r u f k.
      bits_valued (resolved ns ls x) (resolved ns ls y) (resolved ns ls z) (type_of x) (type_of y) (type_of z) ty j h l v (p a b j m o) (q b d h n r) (s d c l t u)
      (of_bits (type_of x) (head_value (erased y) []) (head_value (erased z) []) ty h l w r u) f k) e

  index_valued : (x i : TypedExprTree) (a b c : Bool) (ty : Ty) (v : Valued) → Values x → Values i → IsBase g st a x b (IsExpr g st a x b) → IsExpr g st b i c → IsElement g st x i ty
      → bits_value (head_value (erased x) []) (head_value (erased i) []) (head_value (erased i) []) ≡ Some v
      → IsValued (resolved_index ns ty x (resolved ns ls x) i (resolved ns ls i)) ty v
  index_valued (t_x r u) i a b c ty v p q h m w e = none_bits (head_value (erased i) []) (head_value (erased i) []) v _ e
  index_valued (t_mem r u) i a b c ty v p q h m w e = none_bits (head_value (erased i) []) (head_value (erased i) []) v _ e
  index_valued (t_name r u n) i a b c ty v p q h m w e = none_bits (head_value (erased i) []) (head_value (erased i) []) v _ e
  index_valued (t_pc r u) i a b c ty v p q h m w e = none_bits (head_value (erased i) []) (head_value (erased i) []) v _ e
  index_valued (t_literal r u f o) i a b c ty v p q h k w e = bit_valued (t_literal r u f o) i a b c ty v p q h k w e
  index_valued (t_index r u x j) i a b c ty v p q h k w e = bit_valued (t_index r u x j) i a b c ty v p q h k w e
  index_valued (t_range r u x j m) i a b c ty v p q h k w e = bit_valued (t_range r u x j m) i a b c ty v p q h k w e
  index_valued (t_unary r u op x) i a b c ty v p q h k w e = bit_valued (t_unary r u op x) i a b c ty v p q h k w e
  index_valued (t_cast r u to x) i a b c ty v p q h k w e = bit_valued (t_cast r u to x) i a b c ty v p q h k w e
  index_valued (t_binary r u op x z) i a b c ty v p q h k w e = bit_valued (t_binary r u op x z) i a b c ty v p q h k w e
  index_valued (t_choose r u d x z) i a b c ty v p q h k w e = bit_valued (t_choose r u d x z) i a b c ty v p q h k w e

  ranged_valued : (x y z : TypedExprTree) (a b d c : Bool) (ty : Ty) (v : Valued) → Values x → Values y → Values z → IsWord g st a x b (IsExpr g st a x b) → IsExpr g st b y d → IsExpr g st d z c
      → IsRange x y z ty → bits_value (head_value (erased x) []) (head_value (erased y) []) (head_value (erased z) []) ≡ Some v
      → IsValued (resolved_range ty x (resolved ns ls x) (resolved ns ls y) (resolved ns ls z)) ty v
  ranged_valued (t_x r u) y k a b l c ty v p q s h m n w e = none_bits (head_value (erased y) []) (head_value (erased k) []) v _ e
  ranged_valued (t_mem r u) y k a b l c ty v p q s h m n w e = none_bits (head_value (erased y) []) (head_value (erased k) []) v _ e
  ranged_valued (t_name r u n') y k a b l c ty v p q s h m n w e = none_bits (head_value (erased y) []) (head_value (erased k) []) v _ e
  ranged_valued (t_pc r u) y k a b l c ty v p q s h m n w e = none_bits (head_value (erased y) []) (head_value (erased k) []) v _ e
  ranged_valued (t_literal r u w o) y k a b l c ty v p q s h e n t f = range_valued (t_literal r u w o) y k a b l c ty v p q s h e n t f
  ranged_valued (t_index r u x j) y k a b l c ty v p q s h e n t f = range_valued (t_index r u x j) y k a b l c ty v p q s h e n t f
  ranged_valued (t_range r u x j m) y k a b l c ty v p q s h e n t f = range_valued (t_range r u x j m) y k a b l c ty v p q s h e n t f
  ranged_valued (t_unary r u op x) y k a b l c ty v p q s h e n t f = range_valued (t_unary r u op x) y k a b l c ty v p q s h e n t f
  ranged_valued (t_cast r u to x) y k a b l c ty v p q s h e n t f = range_valued (t_cast r u to x) y k a b l c ty v p q s h e n t f
  ranged_valued (t_binary r u op x z) y k a b l c ty v p q s h e n t f = range_valued (t_binary r u op x z) y k a b l c ty v p q s h e n t f
  ranged_valued (t_choose r u d x z) y k a b l c ty v p q s h e n t f = range_valued (t_choose r u d x z) y k a b l c ty v p q s h e n t f

  pub values : (e : TypedExprTree) → Values e
  values (t_literal s ty u b) a c v h e = literal_valued ty u b v h.0 e
  values (t_name s ty n) a c v h e = cc
  values (t_pc s ty) a c v h e = cc
  values (t_x s ty) a c v h e = cc
  values (t_mem s ty) a c v h e = cc
  values (t_index s ty x i) a c v h e = index_valued x i a h.0 c ty v (values x) (values i) h.1 h.2 h.3 e
  values (t_range s ty x y z) a c v h e = ranged_valued x y z a h.0 h.1 c ty v (values x) (values y) (values z) h.2 h.3 h.4 h.5 e
  values (t_unary s ty op x) a c v h e =
      unary_parts op (head_value (erased x) []) v _ (λ y o f k. unary_valued op (resolved ns ls x) (type_of x) ty y v (values x a c y h.0 o) h.1 f k) e
  values (t_cast s ty to x) a c v h e =
      cast_parts to (head_value (erased x) []) v _ (λ y o f k. cast_valued to (resolved ns ls x) (type_of x) ty y v (values x a c y h.0 o) h.1 f k) e
  values (t_binary s ty op x y) a c v h e =
      binary_parts op (head_value (erased x) []) (head_value (erased y) []) v _ (λ j m o p f k.
      binary_valued op (resolved ns ls x) (resolved ns ls y) (type_of x) (type_of y) ty j m v (values x a h.0 j h.1 o) (values y h.0 c m h.2 p) h.3 f k) e
  values (t_choose s ty d x y) a c v h e =
      choice_parts (head_value (erased d) []) (head_value (erased x) []) (head_value (erased y) []) v _ (λ j m n o p q f k.
      choice_valued (resolved ns ls d) (resolved ns ls x) (resolved ns ls y) (type_of d) (type_of x) (type_of y) ty j m n v
      (values d a h.0 j h.2 o) (values x h.0 h.1 m h.3 p) (values y h.1 c n h.4 q) h.5 f k) e
