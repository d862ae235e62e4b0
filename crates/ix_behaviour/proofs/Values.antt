-- The value of an expression in a loop's head is its number by the names in it.
use Rattle.std.proofs.Common.{◌≡◌, ◌∙◌, sym, ap, subst, refl, ℕ, ◌%◌, ◌^◌, ◌<◌, ℤ, List, [], Option, Some, None, Bool, true, false, cond, nat_eq}
use Rattle.std.proofs.lemmas.Bool.{eqb-true}
use Rattle.std.proofs.Math.Nat.{mod-eq_of_lt}
use Rattle.ix_bits.specs.declared.number.Ty.{Ty}
use Rattle.ix_bits.specs.declared.number.Bits.{Bits}
use Rattle.ix_bits.specs.NearTypes.{type_near, int_type}
use Rattle.ix_bits.specs.ResultTypes.{common_signed, common_width, binary_signed, binary_width, unary_signed, unary_width}
use Rattle.ix_bits.specs.Operators.{value_of, fit, is_true, binary_number, unary_number}
use Rattle.ix_tree.specs.declared.token.Span.{Span}
use Rattle.ix_tree.specs.LoopHeads.{Binding, Valued, value_in, literal_value, variable_value, bits_value, cast_type, head_value}
use Rattle.ix_tree.specs.TypedTrees.{TypedExprTree, t_literal, t_name, t_pc, t_x, t_mem, t_index, t_range, t_unary, t_cast, t_binary, t_choose, type_of, erased}
use Rattle.ix_typing.specs.declared.role.Role.{Role}
use Rattle.ix_typing.specs.declared.role.Role.TheVariants as R
use Rattle.ix_typing.specs.declared.role.Shape.{Shape}
use Rattle.ix_typing.specs.declared.state.Setting.{Setting}
use Rattle.ix_typing.specs.declared.state.State.{State}
use Rattle.ix_typing.specs.Names.{role_of}
use Rattle.ix_typing.specs.Expressions.{is_constant, as_table, table}
use Rattle.ix_typing.specs.Laws.{AreVariables}
use Rattle.ix_typed.specs.Expressions.{IsRead, AreBits, IsTableOr, IsBase, IsWord, IsEntryOrBit, IsElement, IsRange, IsExpr}
use Rattle.ix_mean.specs.Meaning.{Inputs}
use Rattle.ix_mean.specs.ByName.{Names, Local, name_number, Entries, bits_number, entry_or_bit, index_number, range_number, number_by_name}
use Rattle.ix_behaviour.specs.Laws.{HaveValues, IsNumber, ConstantsLaw}
use Rattle.ix_behaviour.proofs.Constants.{some_same, literal_parts, unary_parts, binary_parts, cast_parts, cast_is, choice_parts, bits_parts, of_bits}

variable_parts : (o : Option ℤ) (v : Valued) (G : Type 0) → ((z : ℤ) → o ≡ Some z → int_type ≡ v.ty → z ≡ v.number → G) → variable_value o ≡ Some v → G
variable_parts None v G h e = cc
variable_parts (Some z) v G h e =
    let same = some_same (record { ty = int_type; number = z }) v e in
    h z refl (ap (λ (w : Valued). w.ty) same) (ap (λ (w : Valued). w.number) same)

none_bits : (p q : Option Valued) (v : Valued) (G : Type 0) → bits_value None p q ≡ Some v → G
none_bits p q v G e = bits_parts None p q v G (λ x h l o. cc) e

no_variables : (st : State) → AreVariables [] st
no_variables st n z e = cc

no_values : (ns : Names) (ls : List Local) → HaveValues ns ls []
no_values ns ls n z e = cc

read_local : (st : State) (o : Option Role) (t ty : Ty) → o ≡ Some (R.Local t) → IsRead st o ty → ty ≡ t
read_local st o t ty e h = let P : Option Role → Type 0 = λ z. IsRead st z ty in subst P e h

-- a local's name stands for no table
no_table : (g : Setting) (st : State) (n : List ℕ) (t : Ty) → role_of st.names n ≡ Some (R.Local t) → table g st n ≡ None
no_table g st n t e = ap (λ (o : Option Role). cond (is_constant g.body) None (as_table o)) e ∙ by (is_constant g.body)
  where
    none : Option Shape
    none = None

    by : (b : Bool) → cond b none none ≡ none
    by true = refl
    by false = refl

module _ (g : Setting) (st : State) (ns : Names) (ls : List Local) (i : Inputs) where
  abbrev Values : TypedExprTree → Type 0
  Values e = (a c : Bool) (bs : List Binding) (v : Valued) → AreVariables bs st → HaveValues ns ls bs → IsExpr g st a e c → head_value (erased e) bs ≡ Some v → IsNumber ns i ls e v

  literal_number : (s : Span) (ty u : Ty) (b : Bits) (v : Valued) → ty ≡ u → literal_value u b ≡ Some v → IsNumber ns i ls (t_literal s ty u b) v
  literal_number s ty u b v h e =
      let p = literal_parts (nat_eq b.width u.width) (record { ty = u; number = value_of u b.raw }) v e in
      let w : b.width ≡ u.width = eqb-true b.width u.width p.0 in
      let below : b.raw < 2 ^ u.width = subst (λ (n : ℕ). b.raw < 2 ^ n) w b.in_width in
      let whole : b.raw % 2 ^ u.width ≡ b.raw = mod-eq_of_lt below in
      record {
        ty_is = h ∙ ap (λ (z : Valued). z.ty) p.1;
        number_is = ap (λ (t : Ty). value_of t (b.raw % 2 ^ t.width)) h ∙ ap (value_of u) whole ∙ ap (λ (z : Valued). z.number) p.1;
      }

  name_number_is : (s : Span) (ty : Ty) (n : List ℕ) (bs : List Binding) (v : Valued) → AreVariables bs st → HaveValues ns ls bs → IsRead st (role_of st.names n) ty → variable_value (value_in bs n) ≡ Some v
      → IsNumber ns i ls (t_name s ty n) v
  name_number_is s ty n bs v are have h e =
      variable_parts (value_in bs n) v _ (λ z o t w.
      let l = have n z o in
      record { ty_is = read_local st (role_of st.names n) int_type ty (are n z o) h ∙ t; number_is = ap (name_number ns i n) l.is ∙ l.number_is ∙ w }) e

  -- bits of an expression that has a value
  bits_is : (x y z : TypedExprTree) (ty : Ty) (bs : List Binding) (v : Valued)
      → ((w : Valued) → head_value (erased x) bs ≡ Some w → IsNumber ns i ls x w) → ((w : Valued) → head_value (erased y) [] ≡ Some w → IsNumber ns i ls y w)
      → ((w : Valued) → head_value (erased z) [] ≡ Some w → IsNumber ns i ls z w) → AreBits (type_of x) (head_value (erased y) []) (head_value (erased z) []) ty
      → bits_value (head_value (erased x) bs) (head_value (erased y) []) (head_value (erased z) []) ≡ Some v
      → (ty ≡ v.ty) × (bits_number (type_of x) (number_by_name ns i ls x) (number_by_name ns i ls y) (number_by_name ns i ls z) ≡ v.number)
  bits_is x y z ty bs v p q r w e =
      bits_parts (head_value (erased x) bs) (head_value (erased y) []) (head_value (erased z) []) v _ (λ j h l o m n f k.
      let a = p j o in
      let b = q h m in
      let c = r l n in (
        of_bits (type_of x) (head_value (erased y) []) (head_value (erased z) []) ty h l w m n ∙ sym f,
        ap (λ (t : Ty). bits_number t (number_by_name ns i ls x) (number_by_name ns i ls y) (number_by_name ns i ls z)) a.ty_is
            ∙ ap (λ (t : ℤ). bits_number j.ty t (number_by_name ns i ls y) (number_by_name ns i ls z)) a.number_is
            ∙ ap (λ (t : ℤ). bits_number j.ty j.number t (number_by_name ns i ls z)) b.number_is
            ∙ ap (λ (t : ℤ). bits_number j.ty j.number h.number t) c.number_is ∙ k,
      )) e

  -- one bit
  bit_is : (s : Span) (x y : TypedExprTree) (a b c : Bool) (ty : Ty) (bs : List Binding) (v : Valued) → AreVariables bs st → HaveValues ns ls bs → Values x → Values y → IsExpr g st a x b → IsExpr g st b y c
      → AreBits (type_of x) (head_value (erased y) []) (head_value (erased y) []) ty → bits_value (head_value (erased x) bs) (head_value (erased y) []) (head_value (erased y) []) ≡ Some v
      → index_number ns i ty x (number_by_name ns i ls x) y (number_by_name ns i ls y) ≡ bits_number (type_of x) (number_by_name ns i ls x) (number_by_name ns i ls y) (number_by_name ns i ls y)
      → IsNumber ns i ls (t_index s ty x y) v
  bit_is s x y a b c ty bs v are have p q h k w e f =
      let place : (w : Valued) → head_value (erased y) [] ≡ Some w → IsNumber ns i ls y w = λ w m. q b c [] w (no_variables st) (no_values ns ls) k m in
      let both = bits_is x y y ty bs v (λ u m. p a b bs u are have h m) place place w e in
      record { ty_is = both.0; number_is = f ∙ both.1 }

  -- a bit of a loop's variable
  variable_bit : (s r : Span) (u : Ty) (n : List ℕ) (y : TypedExprTree) (a b c : Bool) (ty : Ty) (bs : List Binding) (v : Valued) → AreVariables bs st → HaveValues ns ls bs → Values (t_name r u n) → Values y
      → IsBase g st a (t_name r u n) b (IsExpr g st a (t_name r u n) b) → IsExpr g st b y c → IsElement g st (t_name r u n) y ty
      → bits_value (variable_value (value_in bs n)) (head_value (erased y) []) (head_value (erased y) []) ≡ Some v → IsNumber ns i ls (t_index s ty (t_name r u n) y) v
  variable_bit s r u n y a b c ty bs v are have p q h k w e =
      bits_parts (variable_value (value_in bs n)) (head_value (erased y) []) (head_value (erased y) []) v _ (λ j m l o _ _ _ _.
      variable_parts (value_in bs n) j _ (λ z is _ _.
      let none = no_table g st n int_type (are n z is) in
      let P : Option Shape → Type 0 = λ t. IsTableOr a u t b (IsExpr g st a (t_name r u n) b) in
      let Q : Option Shape → Type 0 = λ t. IsEntryOrBit t u y ty in
      bit_is s (t_name r u n) y a b c ty bs v are have p q (subst P none h) k (subst Q none w) e
      (ap (λ (t : Option Entries). entry_or_bit t ty u (number_by_name ns i ls (t_name r u n)) (number_by_name ns i ls y)) (have n z is).no_table)) o) e

  index_is : (s : Span) (x y : TypedExprTree) (a b c : Bool) (ty : Ty) (bs : List Binding) (v : Valued) → AreVariables bs st → HaveValues ns ls bs → Values x → Values y
      → IsBase g st a x b (IsExpr g st a x b) → IsExpr g st b y c → IsElement g st x y ty
      → bits_value (head_value (erased x) bs) (head_value (erased y) []) (head_value (erased y) []) ≡ Some v → IsNumber ns i ls (t_index s ty x y) v
  index_is s (t_x r u) y a b c ty bs v are have p q h k w e = none_bits (head_value (erased y) []) (head_value (erased y) []) v _ e
  index_is s (t_mem r u) y a b c ty bs v are have p q h k w e = none_bits (head_value (erased y) []) (head_value (erased y) []) v _ e
  index_is s (t_pc r u) y a b c ty bs v are have p q h k w e = none_bits (head_value (erased y) []) (head_value (erased y) []) v _ e
  index_is s (t_name r u n) y a b c ty bs v are have p q h k w e = variable_bit s r u n y a b c ty bs v are have p q h k w e
  index_is s (t_literal r u t o) y a b c ty bs v are have p q h k w e = bit_is s (t_literal r u t o) y a b c ty bs v are have p q h k w e refl
  index_is s (t_index r u x j) y a b c ty bs v are have p q h k w e = bit_is s (t_index r u x j) y a b c ty bs v are have p q h k w e refl
  index_is s (t_range r u x j m) y a b c ty bs v are have p q h k w e = bit_is s (t_range r u x j m) y a b c ty bs v are have p q h k w e refl
  index_is s (t_unary r u op x) y a b c ty bs v are have p q h k w e = bit_is s (t_unary r u op x) y a b c ty bs v are have p q h k w e refl
  index_is s (t_cast r u to x) y a b c ty bs v are have p q h k w e = bit_is s (t_cast r u to x) y a b c ty bs v are have p q h k w e refl
  index_is s (t_binary r u op x z) y a b c ty bs v are have p q h k w e = bit_is s (t_binary r u op x z) y a b c ty bs v are have p q h k w e refl
  index_is s (t_choose r u d x z) y a b c ty bs v are have p q h k w e = bit_is s (t_choose r u d x z) y a b c ty bs v are have p q h k w e refl

  -- bits
  range_bits : (s : Span) (x y z : TypedExprTree) (a b d c : Bool) (ty : Ty) (bs : List Binding) (v : Valued) → AreVariables bs st → HaveValues ns ls bs → Values x → Values y → Values z
      → IsExpr g st a x b → IsExpr g st b y d → IsExpr g st d z c → AreBits (type_of x) (head_value (erased y) []) (head_value (erased z) []) ty
      → bits_value (head_value (erased x) bs) (head_value (erased y) []) (head_value (erased z) []) ≡ Some v
      → range_number i ty x (number_by_name ns i ls x) (number_by_name ns i ls y) (number_by_name ns i ls z) ≡ bits_number (type_of x) (number_by_name ns i ls x) (number_by_name ns i ls y) (number_by_name ns i ls z)
      → IsNumber ns i ls (t_range s ty x y z) v
  range_bits s x y z a b d c ty bs v are have p q r h k m w e f =
      let both = bits_is x y z ty bs v (λ u n. p a b bs u are have h n) (λ u n. q b d [] u (no_variables st) (no_values ns ls) k n) (λ u n. r d c [] u (no_variables st) (no_values ns ls) m n) w e in
      record { ty_is = both.0; number_is = f ∙ both.1 }

  range_is : (s : Span) (x y z : TypedExprTree) (a b d c : Bool) (ty : Ty) (bs : List Binding) (v : Valued) → AreVariables bs st → HaveValues ns ls bs → Values x → Values y → Values z
      → IsWord g st a x b (IsExpr g st a x b) → IsExpr g st b y d → IsExpr g st d z c → IsRange x y z ty
      → bits_value (head_value (erased x) bs) (head_value (erased y) []) (head_value (erased z) []) ≡ Some v → IsNumber ns i ls (t_range s ty x y z) v
  range_is s (t_x o u) y z a b d c ty bs v are have p q r h k m w e = absurd w
  range_is s (t_mem o u) y z a b d c ty bs v are have p q r h k m w e = none_bits (head_value (erased y) []) (head_value (erased z) []) v _ e
  range_is s (t_pc o u) y z a b d c ty bs v are have p q r h k m w e = none_bits (head_value (erased y) []) (head_value (erased z) []) v _ e
  range_is s (t_name o u n) y z a b d c ty bs v are have p q r h k m w e = range_bits s (t_name o u n) y z a b d c ty bs v are have p q r h k m w e refl
  range_is s (t_literal o u t l) y z a b d c ty bs v are have p q r h k m w e = range_bits s (t_literal o u t l) y z a b d c ty bs v are have p q r h k m w e refl
  range_is s (t_index o u x j) y z a b d c ty bs v are have p q r h k m w e = range_bits s (t_index o u x j) y z a b d c ty bs v are have p q r h k m w e refl
  range_is s (t_range o u x j l) y z a b d c ty bs v are have p q r h k m w e = range_bits s (t_range o u x j l) y z a b d c ty bs v are have p q r h k m w e refl
  range_is s (t_unary o u op x) y z a b d c ty bs v are have p q r h k m w e = range_bits s (t_unary o u op x) y z a b d c ty bs v are have p q r h k m w e refl
  range_is s (t_cast o u to x) y z a b d c ty bs v are have p q r h k m w e = range_bits s (t_cast o u to x) y z a b d c ty bs v are have p q r h k m w e refl
  range_is s (t_binary o u op x l) y z a b d c ty bs v are have p q r h k m w e = range_bits s (t_binary o u op x l) y z a b d c ty bs v are have p q r h k m w e refl
  range_is s (t_choose o u f x l) y z a b d c ty bs v are have p q r h k m w e = range_bits s (t_choose o u f x l) y z a b d c ty bs v are have p q r h k m w e refl

  values : (e : TypedExprTree) → Values e
  values (t_literal s ty u b) a c bs v are have h e = literal_number s ty u b v h.0 e
  values (t_name s ty n) a c bs v are have h e = name_number_is s ty n bs v are have h.1 e
  values (t_pc s ty) a c bs v are have h e = cc
  values (t_x s ty) a c bs v are have h e = cc
  values (t_mem s ty) a c bs v are have h e = cc
  values (t_index s ty x y) a c bs v are have h e = index_is s x y a h.0 c ty bs v are have (values x) (values y) h.1 h.2 h.3 e
  values (t_range s ty x y z) a c bs v are have h e = range_is s x y z a h.0 h.1 c ty bs v are have (values x) (values y) (values z) h.2 h.3 h.4 h.5 e
  values (t_unary s ty op x) a c bs v are have h e =
      unary_parts op (head_value (erased x) bs) v _ (λ y o f k.
      let p = values x a c bs y are have h.0 o in
      record {
        ty_is = h.1.1 ∙ ap (λ (r : Ty). type_near (unary_signed op r) (unary_width op r)) p.ty_is ∙ sym f;
        number_is = ap (λ (r : Ty). unary_number op r (number_by_name ns i ls x)) p.ty_is ∙ ap (unary_number op y.ty) p.number_is ∙ k;
      }) e
  values (t_cast s ty to x) a c bs v are have h e =
      cast_parts to (head_value (erased x) bs) v _ (λ y o f k.
      let p = values x a c bs y are have h.0 o in
      let same : ty ≡ v.ty = cast_is to (type_of x) ty v.ty h.1 (ap (cast_type to) p.ty_is ∙ f) in
      record { ty_is = same; number_is = ap (λ (u : Ty). fit u (number_by_name ns i ls x)) same ∙ ap (fit v.ty) p.number_is ∙ k }) e
  values (t_binary s ty op x y) a c bs v are have h e =
      binary_parts op (head_value (erased x) bs) (head_value (erased y) bs) v _ (λ j m o r f k.
      let p = values x a h.0 bs j are have h.1 o in
      let q = values y h.0 c bs m are have h.2 r in
      record {
        ty_is = h.3.2 ∙ ap (λ (z : Ty). type_near (binary_signed op z (type_of y)) (binary_width op z (type_of y))) p.ty_is
            ∙ ap (λ (z : Ty). type_near (binary_signed op j.ty z) (binary_width op j.ty z)) q.ty_is ∙ sym f;
        number_is = ap (λ (z : Ty). binary_number op z (number_by_name ns i ls x) (type_of y) (number_by_name ns i ls y)) p.ty_is
            ∙ ap (λ (z : ℤ). binary_number op j.ty z (type_of y) (number_by_name ns i ls y)) p.number_is
            ∙ ap (λ (z : Ty). binary_number op j.ty j.number z (number_by_name ns i ls y)) q.ty_is
            ∙ ap (λ (z : ℤ). binary_number op j.ty j.number m.ty z) q.number_is ∙ k;
      }) e
  values (t_choose s ty d x y) a c bs v are have h e =
      choice_parts (head_value (erased d) bs) (head_value (erased x) bs) (head_value (erased y) bs) v _ (λ j m n o r t f k.
      let p = values d a h.0 bs j are have h.2 o in
      let q = values x h.0 h.1 bs m are have h.3 r in
      let u = values y h.1 c bs n are have h.4 t in
      record {
        ty_is = h.5.1 ∙ ap (λ (z : Ty). type_near (common_signed z (type_of y)) (common_width z (type_of y))) q.ty_is
            ∙ ap (λ (z : Ty). type_near (common_signed m.ty z) (common_width m.ty z)) u.ty_is ∙ sym f;
        number_is = ap (λ (z : ℤ). cond (is_true z) (number_by_name ns i ls x) (number_by_name ns i ls y)) p.number_is
            ∙ ap (λ (z : ℤ). cond (is_true j.number) z (number_by_name ns i ls y)) q.number_is
            ∙ ap (λ (z : ℤ). cond (is_true j.number) m.number z) u.number_is ∙ k;
      }) e

pub constants_law : ConstantsLaw
constants_law g st a c e bs v ns ls i are have h f = values g st ns ls i e a c bs v are have h f
