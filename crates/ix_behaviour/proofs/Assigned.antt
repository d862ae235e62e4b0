-- A typed assignment has its names resolved, and what it is resolved to is typed.
use Rattle.std.proofs.Common.{◌≡◌, ◌∙◌, sym, ap, subst, refl, ℕ, ◌+◌, ◌*◌, ◌≤◌, arith, List, length, get_or, Option, Some, None, Bool, true, false, cond, nat_eq}
use Rattle.std.proofs.lemmas.Bool.{eqb-true, false≢true}
use Rattle.std.proofs.lemmas.Nat.{pow_pos}
use Rattle.ix_bits.specs.declared.number.Ty.{Ty}
use Rattle.ix_bits.specs.declared.operator.BinOp.{BinOp}
use Rattle.ix_bits.specs.declared.operator.BinOp.TheVariants as Op
use Rattle.ix_bits.specs.NearTypes.{type_near}
use Rattle.ix_bits.specs.ResultTypes.{Embeds, binary_signed, binary_width}
use Rattle.ix_graph.specs.declared.kind.Kind.TheVariants as k
use Rattle.ix_tree.specs.declared.token.Span.{Span}
use Rattle.ix_tree.specs.TypedTrees.{TypedExprTree, t_literal, t_name, t_pc, t_x, t_mem, t_index, t_range, t_unary, t_cast, t_binary, t_choose, TypedLvalueTree, tl_name, tl_pc, tl_x, tl_mem, TypedAssignTree, type_of, erased}
use Rattle.ix_typing.specs.declared.role.Role.{Role}
use Rattle.ix_typing.specs.declared.role.Role.TheVariants as R
use Rattle.ix_typing.specs.declared.state.Setting.{Setting}
use Rattle.ix_typing.specs.declared.state.State.{State}
use Rattle.ix_typing.specs.declared.targets.Target.{Target}
use Rattle.ix_typing.specs.Names.{role_of}
use Rattle.ix_typing.specs.Expressions.{is_constant as is_constant_body, width_by, width_of_sum, width_loaded}
use Rattle.ix_typing.specs.Assignments.{is_update}
use Rattle.ix_typing.specs.SameTrees.{same_tree}
use Rattle.ix_typing.proofs.Embedded.{embeds_true}
use Rattle.ix_typed.specs.Expressions.{HasBinary, IsLoaded}
use Rattle.ix_typed.specs.Assignments.{IsAssigned, IsPlace, GoesInto, IsAssign}
use Rattle.ix_mean.specs.Core.{u1, u32, Expression, x_slot, x_read, type_of_expression, st_write}
use Rattle.ix_mean.specs.Typing.{Frame, IsTypedExpression, IsTypedStatement}
use Rattle.ix_mean.specs.ByName.{Names, Numbered}
use Rattle.ix_mean.specs.Resolving.{Slot, slot_in, register_read, resolved, IsResolved}
use Rattle.ix_mean.specs.ResolvingStatements.{Scope, operated, register_written, name_written, store_type, written, IsTarget}
use Rattle.ix_behaviour.specs.Behaviours.{loads_in, stores_at, accesses_in}
use Rattle.ix_behaviour.proofs.Types.{binary_is}
use Rattle.ix_behaviour.proofs.FieldTypes.{ArePlaced}
use Rattle.ix_behaviour.proofs.Seeing.{Stands, Sees}
use Rattle.ix_behaviour.proofs.Expressions.{bit, frame_with, Sound, type_is, register_typed, sound}
use Rattle.ix_behaviour.proofs.Stores.{Stores}

-- ---- the width of a store is that of the range before it
literal_type : (s : Span) (ty : Ty) (op : BinOp) (x y l : TypedExprTree) (w : ℕ) → width_by (erased y) ≡ Some w → store_type (t_binary s ty op x y) ≡ type_near false w
literal_type s ty op x (t_literal r u v b) l w e = by (nat_eq b.raw 1) refl (nat_eq b.raw 3) refl e
  where
    by : (c : Bool) → nat_eq b.raw 1 ≡ c → (d : Bool) → nat_eq b.raw 3 ≡ d → cond c (Some 16) (cond d (Some 32) None) ≡ Some w → type_near false (8 * (b.raw + 1)) ≡ type_near false w
    by true h d g f = let same : 8 * (b.raw + 1) ≡ w = (let one = eqb-true b.raw 1 h in let is : 16 ≡ w = cc in omega (arith, one, is)) in ap (type_near false) same
    by false h true g f = let same : 8 * (b.raw + 1) ≡ w = (let three = eqb-true b.raw 3 g in let is : 32 ≡ w = cc in omega (arith, three, is)) in ap (type_near false) same
    by false h false g f = cc
literal_type s ty op x (t_name r u n) l w e = cc
literal_type s ty op x (t_pc r u) l w e = cc
literal_type s ty op x (t_x r u) l w e = cc
literal_type s ty op x (t_mem r u) l w e = cc
literal_type s ty op x (t_index r u y i) l w e = cc
literal_type s ty op x (t_range r u y i j) l w e = cc
literal_type s ty op x (t_unary r u o y) l w e = cc
literal_type s ty op x (t_cast r u to y) l w e = cc
literal_type s ty op x (t_binary r u o y z) l w e = cc
literal_type s ty op x (t_choose r u d y z) l w e = cc

some_width : (b : Bool) (o : Option ℕ) (w : ℕ) → cond b o None ≡ Some w → o ≡ Some w
some_width true o w e = e
some_width false o w e = cc

sum_type : (s : Span) (ty : Ty) (op : BinOp) (x y l : TypedExprTree) (w : ℕ) → width_of_sum op (erased x) (erased y) (erased l) ≡ Some w → store_type (t_binary s ty op x y) ≡ type_near false w
sum_type s ty Op.Add x y l w e = literal_type s ty Op.Add x y l w (some_width (same_tree (erased x) (erased l)) (width_by (erased y)) w e)
sum_type s ty Op.Sub x y l w e = cc
sum_type s ty Op.Mul x y l w e = cc
sum_type s ty Op.And x y l w e = cc
sum_type s ty Op.Or x y l w e = cc
sum_type s ty Op.Xor x y l w e = cc
sum_type s ty Op.Shl x y l w e = cc
sum_type s ty Op.Shr x y l w e = cc
sum_type s ty Op.Eq x y l w e = cc
sum_type s ty Op.Ne x y l w e = cc
sum_type s ty Op.Lt x y l w e = cc
sum_type s ty Op.Le x y l w e = cc
sum_type s ty Op.Gt x y l w e = cc
sum_type s ty Op.Ge x y l w e = cc
sum_type s ty Op.Land x y l w e = cc
sum_type s ty Op.Lor x y l w e = cc
sum_type s ty Op.Concat x y l w e = cc

pub range_type : (h l : TypedExprTree) (w : ℕ) → width_loaded (erased h) (erased l) ≡ Some w → store_type h ≡ type_near false w
range_type (t_binary s ty op x y) l w e = sum_type s ty op x y l w e
range_type (t_literal r u v b) l w e = cc
range_type (t_name r u n) l w e = cc
range_type (t_pc r u) l w e = cc
range_type (t_x r u) l w e = cc
range_type (t_mem r u) l w e = cc
range_type (t_index r u y i) l w e = cc
range_type (t_range r u y i j) l w e = cc
range_type (t_unary r u o y) l w e = cc
range_type (t_cast r u to y) l w e = cc
range_type (t_choose r u d y z) l w e = cc

-- the type that is stored, and its address
record IsStoredAt (at ty stored : Ty) : Type 0 where
  same : stored ≡ ty
  address : Embeds at u32

stored_at : (o : Option ℕ) (at ty stored : Ty) → ((w : ℕ) → o ≡ Some w → stored ≡ type_near false w) → IsLoaded o at ty → IsStoredAt at ty stored
stored_at None at ty stored f h = absurd h
stored_at (Some w) at ty stored f h = record { same = f w refl ∙ sym h.1; address = embeds_true at u32 h.0 }

stores_none : (k : ℕ) → stores_at (3 + k) ≡ 0
stores_none k = by (nat_eq (3 + k) 0) refl
  where
    one_if : Bool → ℕ
    one_if b = cond b 1 0

    by : (b : Bool) → nat_eq (3 + k) 0 ≡ b → one_if b ≡ 0
    by true e = let none : 3 + k ≡ 0 = eqb-true (3 + k) 0 e in omega (arith, none)
    by false e = refl

abbrev nought : ℕ
nought = 0

module _ (ns : Names) (slots : List Ty) (m : Ty) (few : length ns.registers ≤ 16) (placed : ArePlaced ns.pieces) where
  abbrev frame : Frame
  frame = frame_with ns slots m

  -- ---- with an operator
  record OperatedSound (op : Option BinOp) (ty : Ty) (old e : Expression) : Type 0 where
    typed : IsTypedExpression frame (operated op ty old e)
    goes : Embeds (type_of_expression (operated op ty old e)) ty
    loads : loads_in (operated op ty old e) ≡ loads_in e

  operated_sound : (op : Option BinOp) (ty value : Ty) (old e : Expression) → IsTypedExpression frame old → type_of_expression old ≡ ty → loads_in old ≡ 0 → IsTypedExpression frame e
      → type_of_expression e ≡ value → GoesInto op ty value → OperatedSound op ty old e
  operated_sound None ty value old e t s l u v h = let P : Ty → Type 0 = λ a. Embeds a ty in record { typed = u; goes = subst P (sym v) (embeds_true value ty h); loads = refl }
  operated_sound (Some op) ty value old e t s l u v h =
      let a = type_of_expression old in
      let b = type_of_expression e in
      let P : Ty → Type 0 = λ z. HasBinary op z value (type_near (binary_signed op z value) (binary_width op z value)) in
      let Q : Ty → Type 0 = λ z. HasBinary op a z (type_near (binary_signed op a z) (binary_width op a z)) in
      let has : HasBinary op a b (type_near (binary_signed op a b) (binary_width op a b)) = subst Q (sym v) (subst P (sym s) (h.1.0, h.1.1, refl)) in
      record { typed = (t, u, binary_is op a b (type_near (binary_signed op a b) (binary_width op a b)) has); goes = λ n w. w; loads = omega (arith, l) }

  -- ---- what is written to a name
  abbrev RegisterSound : Option BinOp → Expression → Option Numbered → Type 0
  RegisterSound op e o = IsTypedStatement frame (register_written op e o) × (accesses_in (register_written op e o) ≡ loads_in e)

  abbrev NameSound : Option BinOp → List ℕ → Expression → Option Slot → Type 0
  NameSound op n e o = IsTypedStatement frame (name_written ns op n e o) × (accesses_in (name_written ns op n e o) ≡ loads_in e)

  name_sound : (st : State) (op : Option BinOp) (n : List ℕ) (ty value : Ty) (w : Option Target) (e : Expression) (o : Option Slot) (r : Option Role) → Stands ns slots o n r → IsAssigned st r ty w
      → IsTypedExpression frame e → type_of_expression e ≡ value → GoesInto op ty value → NameSound op n e o
  name_sound st op n ty value w e o None h g u v i = absurd g
  name_sound st op n ty value w e o (Some (R.Table j shape)) h g u v i = absurd g
  name_sound st op n ty value w e o (Some (R.Field f)) h g u v i = absurd g
  name_sound st op n ty value w e o (Some (R.Local t)) h g u v i =
      let l = h.1.0 in
      let here : ty ≡ l.ty = g.0 ∙ sym h.1.2 in
      let at : get_or slots l.slot u1 ≡ l.ty = h.1.4 ∙ sym h.1.2 in
      let G : Ty → Type 0 = λ z. GoesInto op z value in
      let p = operated_sound op l.ty value (x_slot l.slot l.ty) e (h.1.3, at) refl refl u v (subst G here i) in
      let all : NameSound op n e (Some l) = ((p.typed, h.1.3, at, p.goes), p.loads) in
      subst (NameSound op n e) (sym h.1.1) all
  name_sound st op n ty value w e o (Some (R.Register j t)) h g u v i =
      let r = h.2.0 in
      let here : ty ≡ r.ty = g.1 ∙ sym h.2.2 in
      let q = register_typed ns slots m few placed n r h.2.1 in
      let G : Ty → Type 0 = λ z. GoesInto op z value in
      let p = operated_sound op r.ty value (register_read r) e (q.0, sym q.2) refl refl u v (subst G here i) in
      let all : RegisterSound op e (Some r) = ((p.typed, pow_pos 32, q.1, q.2, p.goes, λ z y. y), (let none = stores_none r.number in omega (arith, none, p.loads))) in
      let other : NameSound op n e None = subst (RegisterSound op e) (sym h.2.1) all in
      subst (NameSound op n e) (sym h.0) other

  -- ---- what is written to a place
  record PlaceSound (sc : Scope) (a c : Bool) (op : Option BinOp) (x : TypedLvalueTree) (e : Expression) : Type 0 where
    target : IsTarget ns sc x
    typed : Stores m (written ns sc op x e) → IsTypedStatement frame (written ns sc op x e)
    once : bit a + accesses_in (written ns sc op x e) ≤ bit c

  -- the value, behind the place
  record ValueSound (b c : Bool) (value : Ty) (e : Expression) : Type 0 where
    typed : IsTypedExpression frame e
    ty_is : type_of_expression e ≡ value
    once : bit b + loads_in e ≤ bit c

  goes_in : (value ty : Ty) (e : Expression) → type_of_expression e ≡ value → GoesInto None ty value → Embeds (type_of_expression e) ty
  goes_in value ty e v h = let P : Ty → Type 0 = λ a. Embeds a ty in subst P (sym v) (embeds_true value ty h)

  module _ (g : Setting) (st : State) (sc : Scope) (behaves : is_constant_body g.body ≡ false) (sees : Sees ns slots st.names sc.locals) where
    -- memory at an address
    stored_sound : (a : TypedExprTree) (b c d : Bool) (ty value stored : Ty) (e : Expression) → Sound ns slots m few placed sc.locals st.accessed d a → d ≡ false → b ≡ true
        → IsStoredAt (type_of a) ty stored → ValueSound b c value e → GoesInto None ty value
        → ((nought ≡ 0 → m ≡ stored) → IsTypedStatement frame (st_write 0 stored e (resolved ns sc.locals a))) × (bit st.accessed + accesses_in (st_write 0 stored e (resolved ns sc.locals a)) ≤ bit c)
    stored_sound a b c d ty value stored e s f h p v i =
        let A : Ty → Type 0 = λ z. Embeds z u32 in
        let B : Bool → Type 0 = λ z. bit st.accessed + loads_in (resolved ns sc.locals a) ≤ bit z in
        let C : Bool → Type 0 = λ z. bit z + loads_in e ≤ bit c in
        let G : Ty → Type 0 = λ z. Embeds (type_of_expression e) z in
        let zero = subst B f s.once in
        let one = subst C h v.once in (
          λ w. (
            v.typed,
            s.typed,
            omega arith,
            w refl,
            subst G (sym p.same) (goes_in value ty e v.ty_is i),
            subst A (sym (type_is ns slots m few placed sc.locals a s.names)) p.address,
          ),
          omega (arith, zero, one),
        )

    place_sound : (op : Option BinOp) (x : TypedLvalueTree) (ty value : Ty) (w : Option Target) (b c : Bool) (e : Expression) → IsPlace g st (is_update op) x ty w b
        → ValueSound b c value e → GoesInto op ty value → PlaceSound sc st.accessed c op x e
    place_sound op (tl_name n) ty value w b c e h v i =
        let p = name_sound st op n ty value w e (slot_in sc.locals n) (role_of st.names n) (sees n) h.0 v.typed v.ty_is i in
        let B : Bool → Type 0 = λ z. bit z + loads_in e ≤ bit c in
        let once = subst B h.1 v.once in
        record { target = tt; typed = λ s. p.0; once = omega (arith, once, p.1) }
    place_sound op tl_pc ty value w b c e h v i =
        let G : Ty → Type 0 = λ z. GoesInto op z value in
        let p = operated_sound op u32 value (x_read k.RdPC u32) e refl refl refl v.typed v.ty_is (subst G h.2 i) in
        let B : Bool → Type 0 = λ z. bit z + loads_in e ≤ bit c in
        let once = subst B h.4 v.once in
        record { target = tt; typed = λ s. (p.typed, pow_pos 32, omega arith, refl, p.goes, λ z y. y); once = omega (arith, once, p.loads) }
    place_sound None (tl_x f) ty value w b c e h v i =
        let s = sound ns slots m few placed sc.locals g st behaves sees f st.accessed b h.0 in
        let G : Ty → Type 0 = λ z. GoesInto None z value in
        record { target = tt; typed = λ s. (v.typed, pow_pos 32, omega arith, refl, goes_in value u32 e v.ty_is (subst G h.5 i), λ z y. y); once = omega (arith, s.once, v.once) }
    place_sound (Some op) (tl_x f) ty value w b c e h v i = absurd (false≢true (sym h.2))
    place_sound None (tl_mem a None) ty value w b c e h v i =
        let s = sound ns slots m few placed sc.locals g st behaves sees a st.accessed h.0 h.1 in
        let eight : (n : ℕ) → Some 8 ≡ Some n → type_near false 8 ≡ type_near false n = λ n e. (let same : 8 ≡ n = cc in ap (type_near false) same) in
        let p = stored_sound a b c h.0 ty value (type_near false 8) e s h.3.2 h.5 (stored_at (Some 8) (type_of a) ty (type_near false 8) eight h.2) v i in
        record { target = s.names; typed = p.0; once = p.1 }
    place_sound (Some op) (tl_mem a None) ty value w b c e h v i = absurd (false≢true (sym h.3.3))
    place_sound None (tl_mem x (Some a)) ty value w b c e h v i =
        let r = sound ns slots m few placed sc.locals g st behaves sees x st.accessed h.0 h.2 in
        let s = sound ns slots m few placed sc.locals g st behaves sees a h.0 h.1 h.3 in
        let first : Sound ns slots m few placed sc.locals st.accessed h.1 a = record { names = s.names; typed = s.typed; once = omega (arith, r.once, s.once) } in
        let p = stored_sound a b c h.1 ty value (store_type x) e first h.5.2 h.7 (stored_at (width_loaded (erased x) (erased a)) (type_of a) ty (store_type x) (range_type x a) h.4) v i in
        record { target = s.names; typed = p.0; once = p.1 }
    place_sound (Some op) (tl_mem x (Some a)) ty value w b c e h v i = absurd (false≢true (sym h.5.3))

    -- ---- an assignment
    pub record AssignSound (x : TypedAssignTree) (c : Bool) : Type 0 where
      pub value : IsResolved ns sc.locals x.value
      pub target : IsTarget ns sc x.target.tree
      pub typed : Stores m (written ns sc x.op x.target.tree (resolved ns sc.locals x.value)) → IsTypedStatement frame (written ns sc x.op x.target.tree (resolved ns sc.locals x.value))
      pub once : bit st.accessed + accesses_in (written ns sc x.op x.target.tree (resolved ns sc.locals x.value)) ≤ bit c

    pub assign_sound : (x : TypedAssignTree) (after : State) → IsAssign g st x after → AssignSound x after.accessed
    assign_sound x after h =
        let ty = h.0 in
        let w = h.1 in
        let b = h.2 in
        let c = h.3 in
        let s = sound ns slots m few placed sc.locals g st behaves sees x.value b c h.5 in
        let p = place_sound x.op x.target.tree ty (type_of x.value) w b c (resolved ns sc.locals x.value) h.4
        (record { typed = s.typed; ty_is = type_is ns slots m few placed sc.locals x.value s.names; once = s.once }) h.6 in
        let A : Bool → Type 0 = λ z. AssignSound x z in
        subst A (sym (ap (λ (z : State). z.accessed) h.7)) (record { value = s.names; target = p.target; typed = p.typed; once = p.once })
