-- A typed expression has its names resolved, and what it is resolved to is typed.
use Rattle.std.proofs.Common.{◌≡◌, ◌∙◌, sym, ap, subst, refl, ℕ, suc, ◌+◌, ◌-◌, ◌^◌, ◌<◌, ◌≤◌, arith, pos, List, [], ◌∷◌, length, map, get_or, Option, Some, None, Bool, true, false, cond, ◌||◌, ◌⊎◌, inl, inr, not}
use Rattle.std.specs.Prelude.{unsigned_abs, int_le, int_lt, nat_eq, nat_le}
use Rattle.std.proofs.lemmas.Bool.{cond_both, leb-true, and_parts, false≢true}
use Rattle.std.proofs.lemmas.Nat.{pow_pos, mod_below}
use Rattle.std.proofs.lemmas.List.{length-map}
use Rattle.ix_bits.specs.declared.number.Ty.{Ty}
use Rattle.ix_bits.specs.declared.operator.UnOp.{UnOp}
use Rattle.ix_bits.specs.declared.operator.UnOp.TheVariants as U
use Rattle.ix_bits.specs.declared.operator.BinOp.{BinOp}
use Rattle.ix_bits.specs.declared.operator.BinOp.TheVariants as Op
use Rattle.ix_bits.specs.NearTypes.{type_near}
use Rattle.ix_bits.specs.ResultTypes.{Embeds}
use Rattle.ix_graph.specs.declared.kind.Kind.TheVariants as k
use Rattle.ix_tree.specs.declared.token.Span.{Span}
use Rattle.ix_tree.specs.LoopHeads.{Valued, head_value}
use Rattle.ix_tree.specs.Trees.{ExprTree, e_literal, e_name, e_pc, e_x, e_mem, e_index, e_range, e_unary, e_cast, e_binary, e_choose}
use Rattle.ix_tree.specs.TypedTrees.{TypedExprTree, t_literal, t_name, t_pc, t_x, t_mem, t_index, t_range, t_unary, t_cast, t_binary, t_choose, type_of, erased}
use Rattle.ix_typing.specs.declared.role.Role.{Role}
use Rattle.ix_typing.specs.declared.role.Role.TheVariants as R
use Rattle.ix_typing.specs.declared.role.Shape.{Shape}
use Rattle.ix_typing.specs.declared.state.Setting.{Setting}
use Rattle.ix_typing.specs.declared.state.State.{State}
use Rattle.ix_typing.specs.Names.{role_of}
use Rattle.ix_typing.specs.Expressions.{is_constant as is_constant_body, as_table, table, field_of, lies_in_source, is_always_below, is_constant_below, width_by, width_of_sum, width_loaded}
use Rattle.ix_typing.proofs.Embedded.{embeds_true}
use Rattle.ix_typed.specs.Expressions.{IsRead as IsReadName, HasUnary, AreBits, IsLoaded, IsTableOr, IsBase, IsWord, IsEntryOrBit as IsElementOf, IsElement, IsRange as IsRangeOf, IsExpr}
use Rattle.ix_types.specs.Results.{IsBinaryType, IsCommon}
use Rattle.ix_mean.specs.Core.{u1, u32, Expression, x_read, x_load, type_of_expression}
use Rattle.ix_mean.specs.Typing.{Frame, IsPart, IsOne, IsIndexOf, IsConstantIndex, AreEntriesOf, IsTypedExpression}
use Rattle.ix_mean.specs.ByName.{Names, Numbered, register_in, Entries, table_in, stands_at_15}
use Rattle.ix_mean.specs.Resolving.{Slot, slot_in, operand_expression, resolved_other, resolved_name, unary_kind, no_inputs, constant, bits, resolved_entry, resolved_index, resolved_range, resolved, IsOther, IsName, IsPlace, IsEntryOrBit, IsIndex, IsRange, IsResolved}
use Rattle.ix_mean.proofs.Resolvings.{type_kept}
use Rattle.ix_behaviour.specs.Behaviours.{type_of_register, loads_in}
use Rattle.ix_behaviour.proofs.Types.{near_width, unary_is, binary_is, common_is}
use Rattle.ix_behaviour.proofs.Constants.{IsValued, values, place_is}
use Rattle.ix_behaviour.proofs.FieldTypes.{ArePlaced, field_typed}
use Rattle.ix_behaviour.proofs.Seeing.{positive_is, order_is, least_is, below_is, placed_in, Stands, Sees}

-- MEM occurs before, or not
abbrev pub bit : Bool → ℕ
bit true = 1
bit false = 0

-- the types of slots, of what is stored, and of the registers
abbrev pub frame_with : Names → List Ty → Ty → Frame
frame_with ns slots m = record { slots = slots; targets = m ∷ u32 ∷ u32 ∷ map type_of_register ns.registers }

pub behind_three : (a b c d : Ty) (ts : List Ty) (k : ℕ) → get_or (a ∷ b ∷ c ∷ ts) (3 + k) d ≡ get_or ts k d
behind_three a b c d ts k = let e : 3 + k ≡ suc (suc (suc k)) = omega arith in ap (λ (j : ℕ). get_or (a ∷ b ∷ c ∷ ts) j d) e

either_is : (a b : Bool) → (a || b) ≡ true → (a ≡ true) ⊎ (b ≡ true)
either_is true b e = inl refl
either_is false b e = inr e

is_one : (b : Bool) (n : ℕ) → 1 + n ≤ bit b → b ≡ true
is_one true n h = refl
is_one false n h = absurd (omega (arith, h))

is_not : (b : Bool) → not b ≡ true → b ≡ false
is_not true e = cc
is_not false e = refl

-- ---- widths of loads
by_narrow : (x : ExprTree) (w : ℕ) → width_by x ≡ Some w → w ≤ 32
by_narrow (e_literal s ty b) w e = by (nat_eq b.raw 1) (nat_eq b.raw 3) e
  where
    by : (c d : Bool) → cond c (Some 16) (cond d (Some 32) None) ≡ Some w → w ≤ 32
    by true d f = let same : 16 ≡ w = cc in omega (arith, same)
    by false true f = let same : 32 ≡ w = cc in omega (arith, same)
    by false false f = cc
by_narrow (e_name s n) w e = cc
by_narrow (e_pc s) w e = cc
by_narrow (e_x s) w e = cc
by_narrow (e_mem s) w e = cc
by_narrow (e_index s x i) w e = cc
by_narrow (e_range s x h l) w e = cc
by_narrow (e_unary s op x) w e = cc
by_narrow (e_cast s to x) w e = cc
by_narrow (e_binary s op x y) w e = cc
by_narrow (e_choose s c x y) w e = cc

some_width : (b : Bool) (o : Option ℕ) (w : ℕ) → cond b o None ≡ Some w → o ≡ Some w
some_width true o w e = e
some_width false o w e = cc

sum_narrow : (op : BinOp) (a by l : ExprTree) (w : ℕ) → width_of_sum op a by l ≡ Some w → w ≤ 32
sum_narrow Op.Add a by l w e = by_narrow by w (some_width _ (width_by by) w e)
sum_narrow Op.Sub a by l w e = cc
sum_narrow Op.Mul a by l w e = cc
sum_narrow Op.And a by l w e = cc
sum_narrow Op.Or a by l w e = cc
sum_narrow Op.Xor a by l w e = cc
sum_narrow Op.Shl a by l w e = cc
sum_narrow Op.Shr a by l w e = cc
sum_narrow Op.Eq a by l w e = cc
sum_narrow Op.Ne a by l w e = cc
sum_narrow Op.Lt a by l w e = cc
sum_narrow Op.Le a by l w e = cc
sum_narrow Op.Gt a by l w e = cc
sum_narrow Op.Ge a by l w e = cc
sum_narrow Op.Land a by l w e = cc
sum_narrow Op.Lor a by l w e = cc
sum_narrow Op.Concat a by l w e = cc

pub loaded_narrow : (h l : ExprTree) (w : ℕ) → width_loaded h l ≡ Some w → w ≤ 32
loaded_narrow (e_binary s op a by) l w e = sum_narrow op a by l w e
loaded_narrow (e_literal s ty b) l w e = cc
loaded_narrow (e_name s n) l w e = cc
loaded_narrow (e_pc s) l w e = cc
loaded_narrow (e_x s) l w e = cc
loaded_narrow (e_mem s) l w e = cc
loaded_narrow (e_index s x i) l w e = cc
loaded_narrow (e_range s x h j) l w e = cc
loaded_narrow (e_unary s op x) l w e = cc
loaded_narrow (e_cast s to x) l w e = cc
loaded_narrow (e_choose s c x y) l w e = cc

-- what a load is of
pub record IsNarrow (at ty : Ty) : Type 0 where
  pub unsigned : ty.signed ≡ false
  pub address : Embeds at u32
  pub narrow : ty.width ≤ 32

near_narrow : (w : ℕ) → w ≤ 32 → (type_near false w).width ≤ 32
near_narrow w h = omega arith

pub narrow_is : (o : Option ℕ) (at ty : Ty) → ((w : ℕ) → o ≡ Some w → w ≤ 32) → IsLoaded o at ty → IsNarrow at ty
narrow_is None at ty h l = absurd l
narrow_is (Some w) at ty h l = record {
  unsigned = ap (λ (t : Ty). t.signed) l.1;
  address = embeds_true at u32 l.0;
  narrow = (let e : ty.width ≡ (type_near false w).width = ap (λ (t : Ty). t.width) l.1 in omega (arith, e, near_narrow w (h w refl)));
}

module _ (ns : Names) (slots : List Ty) (m : Ty) (few : length ns.registers ≤ 16) (placed : ArePlaced ns.pieces) where
  abbrev frame : Frame
  frame = frame_with ns slots m

  -- ---- names
  abbrev pub OtherSound : Ty → List ℕ → Option Numbered → Type 0
  OtherSound ty n o = IsOther ns ty n o × IsTypedExpression frame (resolved_other ns n o) × (loads_in (resolved_other ns n o) ≡ 0)

  abbrev pub NameSound : Ty → List ℕ → Option Slot → Type 0
  NameSound ty n o = IsName ns ty n o × IsTypedExpression frame (resolved_name ns n o) × (loads_in (resolved_name ns n o) ≡ 0)

  pub register_typed : (n : List ℕ) (r : Numbered) → register_in 0 ns.registers n ≡ Some r → (r.number < 16) × (3 + r.number < length frame.targets) × (get_or frame.targets (3 + r.number) u1 ≡ r.ty)
  register_typed n r e =
      let p = placed_in 0 ns.registers n r e in
      let same : r.number ≡ p.place = omega (arith, p.is) in
      let at : get_or (map type_of_register ns.registers) r.number u1 ≡ r.ty = ap (λ (k : ℕ). get_or (map type_of_register ns.registers) k u1) same ∙ p.ty_is in
      let count : length (map type_of_register ns.registers) ≡ length ns.registers = length-map ns.registers type_of_register in (
        omega (arith, same, p.within, few),
        omega (arith, same, p.within, count),
        behind_three m u32 u32 u1 (map type_of_register ns.registers) r.number ∙ at,
      )

  name_sound : (n : List ℕ) (ty : Ty) (st : State) (w : Option Slot) (o : Option Role) → Stands ns slots w n o → IsReadName st o ty → NameSound ty n w
  name_sound n ty st w None h g = absurd g
  name_sound n ty st w (Some (R.Table j shape)) h g = absurd g
  name_sound n ty st w (Some (R.Local t)) h g =
      let l = h.1.0 in
      let here : ty ≡ l.ty = g ∙ sym h.1.2 in
      let at : get_or slots l.slot u1 ≡ l.ty = h.1.4 ∙ sym h.1.2 in
      let all : NameSound ty n (Some l) = (here, (h.1.3, at), refl) in
      subst (NameSound ty n) (sym h.1.1) all
  name_sound n ty st w (Some (R.Register j t)) h g =
      let r = h.2.0 in
      let p = register_typed n r h.2.1 in
      let all : OtherSound ty n (Some r) = (g.1 ∙ sym h.2.2, (p.0, sym p.2), refl) in
      let none : NameSound ty n None = subst (OtherSound ty n) (sym h.2.1) all in
      subst (NameSound ty n) (sym h.0) none
  name_sound n ty st w (Some (R.Field f)) h g =
      let t = field_typed frame ns.pieces n placed h.3.field in
      let all : OtherSound ty n None = (record { field = h.3.field; typed = g ∙ h.3.typed }, t.typed, t.loads) in
      let none : NameSound ty n None = subst (OtherSound ty n) (sym h.1) all in
      subst (NameSound ty n) (sym h.0) none

  -- ---- a typed expression is sound
  pub record Sound (ls : List Slot) (a c : Bool) (e : TypedExprTree) : Type 0 where
    pub names : IsResolved ns ls e
    pub typed : IsTypedExpression frame (resolved ns ls e)
    pub once : bit a + loads_in (resolved ns ls e) ≤ bit c

  -- what an expression is resolved to has its type
  pub type_is : (ls : List Slot) (e : TypedExprTree) → IsResolved ns ls e → type_of_expression (resolved ns ls e) ≡ type_of e
  type_is ls e h = type_kept no_inputs ns ls e (pow_pos 32) h

  module _ (ls : List Slot) (g : Setting) (st : State) (behaves : is_constant_body g.body ≡ false) (sees : Sees ns slots st.names ls) where
    abbrev Sounds : TypedExprTree → Type 0
    Sounds e = (a c : Bool) → IsExpr g st a e c → Sound ls a c e

    -- ---- bits
    record AreSound (a c : Bool) (ty : Ty) (x y z : TypedExprTree) : Type 0 where
      high : IsPlace y (resolved ns ls y)
      low : IsPlace z (resolved ns ls z)
      typed : IsTypedExpression frame (bits ty (resolved ns ls x) (resolved ns ls y) (resolved ns ls z))
      once : bit a + loads_in (resolved ns ls x) ≤ bit c

    place_of : (y : TypedExprTree) (v : Valued) → head_value (erased y) [] ≡ Some v → IsValued (resolved ns ls y) (type_of y) v → int_le (pos 0) v.number ≡ true → IsPlace y (resolved ns ls y)
    place_of y v e h l = record { constant = h.constant; value = v; is = e; same = h.number_is no_inputs []; least = l }

    -- an expression has the number of its value
    abbrev HasValues : TypedExprTree → Type 0
    HasValues y = (v : Valued) → head_value (erased y) [] ≡ Some v → IsValued (resolved ns ls y) (type_of y) v

    bits_sound : (a b c : Bool) (ty : Ty) (x y z : TypedExprTree) → Sound ls a b x → bit b ≤ bit c → HasValues y → HasValues z
        → (p q : Option Valued) → head_value (erased y) [] ≡ p → head_value (erased z) [] ≡ q → AreBits (type_of x) p q ty → AreSound a c ty x y z
    bits_sound a b c ty x y z u w m n None q e f h = absurd h
    bits_sound a b c ty x y z u w m n (Some i) None e f h = absurd h
    bits_sound a b c ty x y z u w m n (Some i) (Some j) e f h =
        let p = m i e in
        let q = n j f in
        let hi = place_is (resolved ns ls y) (type_of y) i p in
        let lo = place_is (resolved ns ls z) (type_of z) j q in
        let order = order_is j.number i.number h.0 h.1 in
        let below = below_is i.number (type_of x).width (least_is j.number i.number h.0 h.1) h.2 in
        let narrow = (type_of x).most_width in
        let wide : ty.width ≡ unsigned_abs i.number - unsigned_abs j.number + 1 =
        ap (λ (t : Ty). t.width) h.3 ∙ near_width false (unsigned_abs i.number - unsigned_abs j.number + 1) (omega arith) (omega (arith, below, narrow)) in
        let part : IsPart (unsigned_abs i.number) (unsigned_abs j.number) (type_of x) ty = record { order = order; within = below; unsigned = ap (λ (t : Ty). t.signed) h.3; width = wide } in
        let P : ℕ → Type 0 = λ k. IsPart k (unsigned_abs j.number) (type_of x) ty in
        let Q : ℕ → Type 0 = λ k. IsPart (constant (resolved ns ls y)) k (type_of x) ty in
        let R : Ty → Type 0 = λ t. IsPart (constant (resolved ns ls y)) (constant (resolved ns ls z)) t ty in
        record {
          high = place_of y i e p (least_is j.number i.number h.0 h.1);
          low = place_of z j f q h.0;
          typed = (u.typed, subst R (sym (type_is ls x u.names)) (subst Q (sym lo) (subst P (sym hi) part)));
          once = omega (arith, u.once, w);
        }

    -- ---- entries
    entry_place : (a c : Bool) (i : TypedExprTree) (es : List ℕ) (len : ℕ) (o : Option Valued) → length es ≡ len → Sound ls a c i → IsExpr g st a i c → head_value (erased i) [] ≡ o
        → (is_always_below (type_of i) len || is_constant_below o len) ≡ true → IsIndexOf es (type_of_expression (resolved ns ls i)) ⊎ IsConstantIndex es (resolved ns ls i)
    entry_place a c i es len o n s h e w = by (either_is (is_always_below (type_of i) len) (is_constant_below o len) w)
      where
        always : is_always_below (type_of i) len ≡ true → IsIndexOf es (type_of_expression (resolved ns ls i))
        always f =
            let p = and_parts (not (type_of i).signed) (nat_le (2 ^ (type_of i).width) len) f in
            let most : 2 ^ (type_of i).width ≤ len = leb-true (2 ^ (type_of i).width) len p.1 in
            let all : IsIndexOf es (type_of i) = record { unsigned = is_not (type_of i).signed p.0; enough = omega (arith, most, n) } in
            subst (IsIndexOf es) (sym (type_is ls i s.names)) all

        at : (q : Option Valued) → head_value (erased i) [] ≡ q → is_constant_below q len ≡ true → IsConstantIndex es (resolved ns ls i)
        at None f p = cc
        at (Some v) f p =
            let both = and_parts (int_le (pos 0) v.number) (int_lt v.number (pos len)) p in
            let val = values ns ls g st i a c v h f in
            let below = below_is v.number len both.0 both.1 in
            record {
              constant = val.constant;
              place = unsigned_abs v.number;
              within = omega (arith, below, n);
              is = λ j t. val.number_is j t ∙ positive_is v.number both.0;
            }

        by : (is_always_below (type_of i) len ≡ true) ⊎ (is_constant_below o len ≡ true) → IsIndexOf es (type_of_expression (resolved ns ls i)) ⊎ IsConstantIndex es (resolved ns ls i)
        by (inl f) = inl (always f)
        by (inr f) = inr (at o e f)

    -- ---- indices
    -- what an index is resolved to is sound
    record IndexSound (a c : Bool) (ty : Ty) (x i : TypedExprTree) : Type 0 where
      names : IsIndex ns ty x (IsResolved ns ls x) i (IsResolved ns ls i) (resolved ns ls i)
      typed : IsTypedExpression frame (resolved_index ns ty x (resolved ns ls x) i (resolved ns ls i))
      once : bit a + loads_in (resolved_index ns ty x (resolved ns ls x) i (resolved ns ls i)) ≤ bit c

    -- one bit of an expression
    bit_sound : (x i : TypedExprTree) (a b c : Bool) (ty : Ty) → Sounds x → Sounds i → IsExpr g st a x b → IsExpr g st b i c
        → AreBits (type_of x) (head_value (erased i) []) (head_value (erased i) []) ty → AreSound a c ty x i i
    bit_sound x i a b c ty u v m n h =
        let s = v b c n in
        let val : HasValues i = λ w e. values ns ls g st i b c w n e in
        bits_sound a b c ty x i i (u a b m) (omega (arith, s.once)) val val (head_value (erased i) []) (head_value (erased i) []) refl refl h

    operand_typed : (f : List ℕ) → IsTypedExpression frame (operand_expression ns.pieces f)
    operand_typed f = cond_both (stands_at_15 ns.pieces f) (x_read k.RdRS1 u32) (x_read k.RdRS2 u32) (λ (e : Expression). IsTypedExpression frame e) (λ e. refl) (λ e. refl)

    operand_loads : (f : List ℕ) → loads_in (operand_expression ns.pieces f) ≡ 0
    operand_loads f = cond_both (stands_at_15 ns.pieces f) (x_read k.RdRS1 u32) (x_read k.RdRS2 u32) (λ (e : Expression). loads_in e ≡ 0) (λ e. refl) (λ e. refl)

    -- X before a field
    source_sound : (r : Span) (u : Ty) (i : TypedExprTree) (a b c : Bool) (ty : Ty) → b ≡ a → Sounds i → IsExpr g st b i c → lies_in_source (field_of st (erased i)) ≡ true → ty ≡ u32 → IndexSound a c ty (t_x r u) i
    source_sound r u (t_name s v f) a b c ty e p h l t =
        let w = p b c h in
        record { names = t; typed = operand_typed f; once = (let P : Bool → Type 0 = λ z. bit z + 0 ≤ bit c in rw (operand_loads f) (subst P e (omega (arith, w.once)))) }
    source_sound r u (t_literal s v w o) a b c ty e p h l t = absurd (false≢true l)
    source_sound r u (t_pc s v) a b c ty e p h l t = absurd (false≢true l)
    source_sound r u (t_x s v) a b c ty e p h l t = absurd (false≢true l)
    source_sound r u (t_mem s v) a b c ty e p h l t = absurd (false≢true l)
    source_sound r u (t_index s v x j) a b c ty e p h l t = absurd (false≢true l)
    source_sound r u (t_range s v x y z) a b c ty e p h l t = absurd (false≢true l)
    source_sound r u (t_unary s v op x) a b c ty e p h l t = absurd (false≢true l)
    source_sound r u (t_cast s v to x) a b c ty e p h l t = absurd (false≢true l)
    source_sound r u (t_binary s v op x y) a b c ty e p h l t = absurd (false≢true l)
    source_sound r u (t_choose s v d x y) a b c ty e p h l t = absurd (false≢true l)

    -- a load of bytes from an address on
    record LoadSound (a c : Bool) (ty : Ty) (l : TypedExprTree) : Type 0 where
      typed : IsTypedExpression frame (x_load ty (resolved ns ls l))
      once : bit a + (loads_in (resolved ns ls l) + 1) ≤ bit c

    load_sound : (a b c : Bool) (ty : Ty) (l : TypedExprTree) → a ≡ false → b ≡ true → Sound ls b c l → IsNarrow (type_of l) ty → LoadSound a c ty l
    load_sound a b c ty l e f s h =
        let P : Bool → Type 0 = λ z. bit z + loads_in (resolved ns ls l) ≤ bit c in
        let Q : Bool → Type 0 = λ z. bit z + (loads_in (resolved ns ls l) + 1) ≤ bit c in
        let R : Ty → Type 0 = λ t. Embeds t u32 in
        let one : 1 + loads_in (resolved ns ls l) ≤ bit c = subst P f s.once in
        record { typed = (s.typed, h.unsigned, subst R (sym (type_is ls l s.names)) h.address, h.narrow); once = subst Q (sym e) (omega (arith, one)) }

    -- a name before an index: an entry of a table, or a bit of what the name stands for
    abbrev Entered : Bool → Bool → Ty → TypedExprTree → Expression → Type 0 → Option Entries → Type 0
    Entered a c ty i base P o =
        IsEntryOrBit o P i (resolved ns ls i) × IsTypedExpression frame (resolved_entry o ty base (resolved ns ls i)) × (bit a + loads_in (resolved_entry o ty base (resolved ns ls i)) ≤ bit c)

    entered_bit : (a b c : Bool) (ty u : Ty) (r : Span) (n : List ℕ) (i : TypedExprTree) → Sounds (t_name r u n) → Sounds i → IsExpr g st a (t_name r u n) b → IsExpr g st b i c
        → AreBits u (head_value (erased i) []) (head_value (erased i) []) ty → (o : Option Entries) → o ≡ None
        → Entered a c ty i (resolved ns ls (t_name r u n)) (IsResolved ns ls (t_name r u n)) o
    entered_bit a b c ty u r n i p q h m w o e =
        let x = t_name r u n in
        let s = p a b h in
        let t = bit_sound x i a b c ty p q h m w in
        let all : Entered a c ty i (resolved ns ls x) (IsResolved ns ls x) None = ((s.names, t.high), t.typed, t.once) in
        subst (Entered a c ty i (resolved ns ls x) (IsResolved ns ls x)) (sym e) all

    entered : (a b c : Bool) (ty u : Ty) (r : Span) (n : List ℕ) (i : TypedExprTree) (o : Option Role) → role_of st.names n ≡ o → Sounds (t_name r u n) → Sounds i
        → IsTableOr a u (as_table o) b (IsExpr g st a (t_name r u n) b) → IsExpr g st b i c → IsElementOf (as_table o) u i ty
        → Stands ns slots (slot_in ls n) n o → Entered a c ty i (resolved ns ls (t_name r u n)) (IsResolved ns ls (t_name r u n)) (table_in 0 ns.tables n)
    entered a b c ty u r n i None e p q h m w t = entered_bit a b c ty u r n i p q h m w (table_in 0 ns.tables n) t.2
    entered a b c ty u r n i (Some (R.Field f)) e p q h m w t = entered_bit a b c ty u r n i p q h m w (table_in 0 ns.tables n) t.2
    entered a b c ty u r n i (Some (R.Local l)) e p q h m w t = entered_bit a b c ty u r n i p q h m w (table_in 0 ns.tables n) t.0
    entered a b c ty u r n i (Some (R.Register j l)) e p q h m w t = entered_bit a b c ty u r n i p q h m w (table_in 0 ns.tables n) t.1
    entered a b c ty u r n i (Some (R.Table j shape)) e p q h m w t =
        let s = q b c m in
        let es = t.2.0 in
        let place = entry_place b c i es.patterns shape.length (head_value (erased i) []) t.2.2 s m refl w.0 in
        let A : Ty → Type 0 = λ z. AreEntriesOf z es.patterns in
        let B : Bool → Type 0 = λ z. bit z + loads_in (resolved ns ls i) ≤ bit c in
        let all : Entered a c ty i (resolved ns ls (t_name r u n)) (IsResolved ns ls (t_name r u n)) (Some es) = (tt, (s.typed, subst A (sym w.1) t.2.3, place), subst B h.1 s.once) in
        subst (Entered a c ty i (resolved ns ls (t_name r u n)) (IsResolved ns ls (t_name r u n))) (sym t.2.1) all

    name_index : (a b c : Bool) (ty u : Ty) (r : Span) (n : List ℕ) (i : TypedExprTree) → Sounds (t_name r u n) → Sounds i → IsBase g st a (t_name r u n) b (IsExpr g st a (t_name r u n) b)
        → IsExpr g st b i c → IsElement g st (t_name r u n) i ty → IndexSound a c ty (t_name r u n) i
    name_index a b c ty u r n i p q h m w =
        let is : table g st n ≡ as_table (role_of st.names n) = ap (λ (z : Bool). cond z None (as_table (role_of st.names n))) behaves in
        let B : Option Shape → Type 0 = λ z. IsTableOr a u z b (IsExpr g st a (t_name r u n) b) in
        let E : Option Shape → Type 0 = λ z. IsElementOf z u i ty in
        let all = entered a b c ty u r n i (role_of st.names n) refl p q (subst B is h) m (subst E is w) (sees n) in
        let s = q b c m in
        record { names = (s.names, all.0); typed = all.1; once = all.2 }

    plain_index : (x i : TypedExprTree) (a b c : Bool) (ty : Ty) → Sounds x → Sounds i → IsExpr g st a x b → IsExpr g st b i c → AreBits (type_of x) (head_value (erased i) []) (head_value (erased i) []) ty
        → (IsResolved ns ls x × IsResolved ns ls i × IsPlace i (resolved ns ls i) → IsIndex ns ty x (IsResolved ns ls x) i (IsResolved ns ls i) (resolved ns ls i))
        → resolved_index ns ty x (resolved ns ls x) i (resolved ns ls i) ≡ bits ty (resolved ns ls x) (resolved ns ls i) (resolved ns ls i) → IndexSound a c ty x i
    plain_index x i a b c ty p q h m w f e =
        let t = bit_sound x i a b c ty p q h m w in
        let A : Expression → Type 0 = λ z. IsTypedExpression frame z in
        let B : Expression → Type 0 = λ z. bit a + loads_in z ≤ bit c in
        record { names = f ((p a b h).names, (q b c m).names, t.high); typed = subst A (sym e) t.typed; once = subst B (sym e) t.once }

    index_sound : (x i : TypedExprTree) (a b c : Bool) (ty : Ty) → Sounds x → Sounds i → IsBase g st a x b (IsExpr g st a x b) → IsExpr g st b i c → IsElement g st x i ty → IndexSound a c ty x i
    index_sound (t_x r u) i a b c ty p q h m w = source_sound r u i a b c ty h.3 q m w.0 w.1
    index_sound (t_mem r u) i a b c ty p q h m w =
        let eight : (n : ℕ) → Some 8 ≡ Some n → n ≤ 32 = λ n e. (let same : 8 ≡ n = cc in omega (arith, same)) in
        let s = q b c m in
        let l = load_sound a b c ty i h.1 h.4 s (narrow_is (Some 8) (type_of i) ty eight w) in
        record { names = s.names; typed = l.typed; once = l.once }
    index_sound (t_name r u n) i a b c ty p q h m w = name_index a b c ty u r n i p q h m w
    index_sound (t_literal r u v o) i a b c ty p q h m w = plain_index (t_literal r u v o) i a b c ty p q h m w (λ z. z) refl
    index_sound (t_pc r u) i a b c ty p q h m w = plain_index (t_pc r u) i a b c ty p q h m w (λ z. z) refl
    index_sound (t_index r u x j) i a b c ty p q h m w = plain_index (t_index r u x j) i a b c ty p q h m w (λ z. z) refl
    index_sound (t_range r u x y z) i a b c ty p q h m w = plain_index (t_range r u x y z) i a b c ty p q h m w (λ z. z) refl
    index_sound (t_unary r u op x) i a b c ty p q h m w = plain_index (t_unary r u op x) i a b c ty p q h m w (λ z. z) refl
    index_sound (t_cast r u to x) i a b c ty p q h m w = plain_index (t_cast r u to x) i a b c ty p q h m w (λ z. z) refl
    index_sound (t_binary r u op x y) i a b c ty p q h m w = plain_index (t_binary r u op x y) i a b c ty p q h m w (λ z. z) refl
    index_sound (t_choose r u d x y) i a b c ty p q h m w = plain_index (t_choose r u d x y) i a b c ty p q h m w (λ z. z) refl

    -- ---- ranges
    record RangeSound (a c : Bool) (ty : Ty) (x y z : TypedExprTree) : Type 0 where
      names : IsRange x (IsResolved ns ls x) y (IsResolved ns ls y) z (IsResolved ns ls z) (resolved ns ls y) (resolved ns ls z)
      typed : IsTypedExpression frame (resolved_range ty x (resolved ns ls x) (resolved ns ls y) (resolved ns ls z))
      once : bit a + loads_in (resolved_range ty x (resolved ns ls x) (resolved ns ls y) (resolved ns ls z)) ≤ bit c

    plain_range : (x y z : TypedExprTree) (a b d c : Bool) (ty : Ty) → Sounds x → Sounds y → Sounds z → IsExpr g st a x b → IsExpr g st b y d → IsExpr g st d z c
        → AreBits (type_of x) (head_value (erased y) []) (head_value (erased z) []) ty
        → (IsResolved ns ls x × IsResolved ns ls y × IsResolved ns ls z × IsPlace y (resolved ns ls y) × IsPlace z (resolved ns ls z)
        → IsRange x (IsResolved ns ls x) y (IsResolved ns ls y) z (IsResolved ns ls z) (resolved ns ls y) (resolved ns ls z))
        → resolved_range ty x (resolved ns ls x) (resolved ns ls y) (resolved ns ls z) ≡ bits ty (resolved ns ls x) (resolved ns ls y) (resolved ns ls z) → RangeSound a c ty x y z
    plain_range x y z a b d c ty p q r h m n w f e =
        let s = q b d m in
        let t = r d c n in
        let l : bit b ≤ bit c = omega (arith, s.once, t.once) in
        let all = bits_sound a b c ty x y z (p a b h) l (λ v k. values ns ls g st y b d v m k) (λ v k. values ns ls g st z d c v n k) (head_value (erased y) []) (head_value (erased z) []) refl refl w in
        let A : Expression → Type 0 = λ u. IsTypedExpression frame u in
        let B : Expression → Type 0 = λ u. bit a + loads_in u ≤ bit c in
        record { names = f ((p a b h).names, s.names, t.names, all.high, all.low); typed = subst A (sym e) all.typed; once = subst B (sym e) all.once }

    memory_range : (o : Span) (u : Ty) (y z : TypedExprTree) (a b d c : Bool) (ty : Ty) → Sounds y → Sounds z → a ≡ false → b ≡ true → IsExpr g st b y d → IsExpr g st d z c
        → IsLoaded (width_loaded (erased y) (erased z)) (type_of z) ty → RangeSound a c ty (t_mem o u) y z
    memory_range o u y z a b d c ty q r e f m n w =
        let s = q b d m in
        let P : Bool → Type 0 = λ k. bit k + loads_in (resolved ns ls y) ≤ bit d in
        let stays : d ≡ true = is_one d (loads_in (resolved ns ls y)) (subst P f s.once) in
        let l = load_sound a d c ty z e stays (r d c n) (narrow_is (width_loaded (erased y) (erased z)) (type_of z) ty (loaded_narrow (erased y) (erased z)) w) in
        record { names = (r d c n).names; typed = l.typed; once = l.once }

    range_sound : (x y z : TypedExprTree) (a b d c : Bool) (ty : Ty) → Sounds x → Sounds y → Sounds z → IsWord g st a x b (IsExpr g st a x b) → IsExpr g st b y d → IsExpr g st d z c → IsRangeOf x y z ty
        → RangeSound a c ty x y z
    range_sound (t_x r u) y z a b d c ty p q s h m n w = absurd w
    range_sound (t_mem r u) y z a b d c ty p q s h m n w = memory_range r u y z a b d c ty q s h.1 h.4 m n w
    range_sound (t_name r u v) y z a b d c ty p q s h m n w = plain_range (t_name r u v) y z a b d c ty p q s h m n w (λ t. t) refl
    range_sound (t_literal r u v o) y z a b d c ty p q s h m n w = plain_range (t_literal r u v o) y z a b d c ty p q s h m n w (λ t. t) refl
    range_sound (t_pc r u) y z a b d c ty p q s h m n w = plain_range (t_pc r u) y z a b d c ty p q s h m n w (λ t. t) refl
    range_sound (t_index r u x j) y z a b d c ty p q s h m n w = plain_range (t_index r u x j) y z a b d c ty p q s h m n w (λ t. t) refl
    range_sound (t_range r u x v o) y z a b d c ty p q s h m n w = plain_range (t_range r u x v o) y z a b d c ty p q s h m n w (λ t. t) refl
    range_sound (t_unary r u op x) y z a b d c ty p q s h m n w = plain_range (t_unary r u op x) y z a b d c ty p q s h m n w (λ t. t) refl
    range_sound (t_cast r u to x) y z a b d c ty p q s h m n w = plain_range (t_cast r u to x) y z a b d c ty p q s h m n w (λ t. t) refl
    range_sound (t_binary r u op x v) y z a b d c ty p q s h m n w = plain_range (t_binary r u op x v) y z a b d c ty p q s h m n w (λ t. t) refl
    range_sound (t_choose r u e x v) y z a b d c ty p q s h m n w = plain_range (t_choose r u e x v) y z a b d c ty p q s h m n w (λ t. t) refl

    -- ---- expressions
    unary_typed : (op : UnOp) (x : TypedExprTree) (ty : Ty) → IsResolved ns ls x → HasUnary op (type_of x) ty → IsOne (unary_kind op) (type_of_expression (resolved ns ls x)) ty
    unary_typed U.Neg x ty h t = let P : Ty → Type 0 = λ a. IsOne k.Neg a ty in subst P (sym (type_is ls x h)) (unary_is U.Neg (type_of x) ty t)
    unary_typed U.Not x ty h t = let P : Ty → Type 0 = λ a. IsOne k.Not a ty in subst P (sym (type_is ls x h)) (unary_is U.Not (type_of x) ty t)
    unary_typed U.Lnot x ty h t = let P : Ty → Type 0 = λ a. IsOne k.Lnot a ty in subst P (sym (type_is ls x h)) (unary_is U.Lnot (type_of x) ty t)

    no_more : (a c : Bool) → c ≡ a → bit a + 0 ≤ bit c
    no_more a c e = let P : Bool → Type 0 = λ z. bit a + 0 ≤ bit z in subst P (sym e) (omega arith)

    pub sound : (e : TypedExprTree) → Sounds e
    sound (t_literal s ty u b) a c h = record { names = tt; typed = mod_below b.raw (2 ^ ty.width) (pow_pos ty.width); once = no_more a c h.1 }
    sound (t_name s ty n) a c h =
        let t = name_sound n ty st (slot_in ls n) (role_of st.names n) (sees n) h.1 in
        record { names = t.0; typed = t.1; once = (let l = no_more a c h.2 in omega (arith, l, t.2)) }
    sound (t_pc s ty) a c h = record { names = h.3; typed = refl; once = no_more a c h.4 }
    sound (t_x s ty) a c h = absurd h
    sound (t_mem s ty) a c h = absurd h
    sound (t_index s ty x i) a c h = let t = index_sound x i a h.0 c ty (sound x) (sound i) h.1 h.2 h.3 in record { names = t.names; typed = t.typed; once = t.once }
    sound (t_range s ty x y z) a c h =
        let t = range_sound x y z a h.0 h.1 c ty (sound x) (sound y) (sound z) h.2 h.3 h.4 h.5 in record { names = t.names; typed = t.typed; once = t.once }
    sound (t_unary s ty op x) a c h = let t = sound x a c h.0 in record { names = t.names; typed = (t.typed, unary_typed op x ty t.names h.1); once = t.once }
    sound (t_cast s ty to x) a c h = let t = sound x a c h.0 in record { names = t.names; typed = t.typed; once = t.once }
    sound (t_binary s ty op x y) a c h =
        let t = sound x a h.0 h.1 in
        let u = sound y h.0 c h.2 in
        let P : Ty → Type 0 = λ z. IsBinaryType op z (type_of y) ty in
        let Q : Ty → Type 0 = λ z. IsBinaryType op (type_of_expression (resolved ns ls x)) z ty in
        record {
          names = (t.names, u.names);
          typed = (t.typed, u.typed, subst Q (sym (type_is ls y u.names)) (subst P (sym (type_is ls x t.names)) (binary_is op (type_of x) (type_of y) ty h.3)));
          once = omega (arith, t.once, u.once);
        }
    sound (t_choose s ty d x y) a c h =
        let r = sound d a h.0 h.2 in
        let t = sound x h.0 h.1 h.3 in
        let u = sound y h.1 c h.4 in
        let P : Ty → Type 0 = λ z. IsCommon z (type_of y) ty in
        let Q : Ty → Type 0 = λ z. IsCommon (type_of_expression (resolved ns ls x)) z ty in
        record {
          names = (r.names, t.names, u.names);
          typed = (r.typed, t.typed, u.typed, subst Q (sym (type_is ls y u.names)) (subst P (sym (type_is ls x t.names)) (common_is (type_of x) (type_of y) ty h.5)));
          once = omega (arith, r.once, t.once, u.once);
        }
