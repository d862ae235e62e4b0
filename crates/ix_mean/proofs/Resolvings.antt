-- Resolving the names of an expression keeps its type and its number.
use Rattle.std.proofs.Common.{◌≡◌, ℕ, ◌^◌, ◌<◌, refl, sym, ap, ◌∙◌, Bool, true, false, cond, Option, Some, None, ℤ, pos, List, [], ◌∷◌, map}
use Rattle.std.specs.Prelude.{unsigned_abs, ◌&&◌}
use Rattle.std.proofs.lemmas.Bool.{cond_both, and_parts}
use Rattle.ix_bits.specs.declared.number.Ty.{Ty}
use Rattle.ix_bits.specs.declared.operator.UnOp.{UnOp}
use Rattle.ix_bits.specs.declared.operator.UnOp.TheVariants as U
use Rattle.ix_bits.specs.Operators.{pattern_of, fit, is_true, binary_number, unary_number, bits_between}
use Rattle.ix_graph.specs.declared.kind.Kind.TheVariants as k
use Rattle.ix_tree.specs.declared.extension.Piece.{Piece}
use Rattle.ix_tree.specs.Lexing.{same_bytes}
use Rattle.ix_tree.specs.TypedTrees.{TypedExprTree, t_literal, t_name, t_pc, t_x, t_mem, t_index, t_range, t_unary, t_cast, t_binary, t_choose, type_of}
use Rattle.ix_mean.specs.Core.{u32, Expression, x_const, x_slot, x_read, x_load, x_one, x_cast, x_entry, x_two, x_choose, type_of_expression}
use Rattle.ix_mean.specs.Meaning.{Inputs, loaded, one_number, entry_number, number}
use Rattle.ix_mean.specs.Typing.{is_constant}
use Rattle.ix_mean.specs.ByName.{Names, Local, local_in, Numbered, register_in, Entries, table_in, stands_at_15, register_or_field, name_number, bits_number, entry_or_bit, index_number, range_number, number_by_name}
use Rattle.ix_mean.specs.Resolving.{Slot, slot_in, operand_expression, resolved_other, resolved_name, unary_kind, no_inputs, constant, bits, resolved_entry, resolved_index, resolved_range, resolved, IsOther, IsName, IsPlace, IsEntryOrBit, IsIndex, IsRange, IsResolved, local_at, ResolvingLaw}
use Rattle.ix_mean.proofs.Fields.{field_is, field_type}
use Rattle.ix_mean.proofs.Effecting.{zero_is}

-- ---- an expression of literals has one number
pub constant_kept : (i j : Inputs) (s t : List ℤ) (e : Expression) → is_constant e ≡ true → number i s e ≡ number j t e
constant_kept i j s t (x_const ty raw) h = refl
constant_kept i j s t (x_slot n ty) h = cc
constant_kept i j s t (x_read kind ty) h = cc
constant_kept i j s t (x_load ty a) h = cc
constant_kept i j s t (x_one kind ty a) h = ap (one_number kind (type_of_expression a) ty) (constant_kept i j s t a h)
constant_kept i j s t (x_cast ty a) h = ap (fit ty) (constant_kept i j s t a h)
constant_kept i j s t (x_entry n es ty a) h = cc
constant_kept i j s t (x_two op ty a b) h =
    let p = and_parts (is_constant a) (is_constant b) h in
    ap (λ (z : ℤ). binary_number op (type_of_expression a) z (type_of_expression b) (number i s b)) (constant_kept i j s t a p.0)
    ∙ ap (binary_number op (type_of_expression a) (number j t a) (type_of_expression b)) (constant_kept i j s t b p.1)
constant_kept i j s t (x_choose ty c a b) h =
    let p = and_parts (is_constant c && is_constant a) (is_constant b) h in
    let q = and_parts (is_constant c) (is_constant a) p.0 in
    ap (λ (z : ℤ). cond (is_true z) (number i s a) (number i s b)) (constant_kept i j s t c q.0)
    ∙ ap (λ (z : ℤ). cond (is_true (number j t c)) z (number i s b)) (constant_kept i j s t a q.1)
    ∙ ap (λ (z : ℤ). cond (is_true (number j t c)) (number j t a) z) (constant_kept i j s t b p.1)

place_kept : (i : Inputs) (s : List ℤ) (y : TypedExprTree) (e : Expression) (z : ℤ) → IsPlace y e → number i s e ≡ z → constant e ≡ unsigned_abs z
place_kept i s y e z h f = ap unsigned_abs (constant_kept no_inputs i [] s e h.constant ∙ f)

-- ---- types
other_type : (i : Inputs) (ns : Names) (ty : Ty) (n : List ℕ) (o : Option Numbered) → i.word < 2 ^ 32 → IsOther ns ty n o → type_of_expression (resolved_other ns n o) ≡ ty
other_type i ns ty n (Some r) g h = sym h
other_type i ns ty n None g h = field_type i ns.pieces n g h.field ∙ sym h.typed

name_type : (i : Inputs) (ns : Names) (ty : Ty) (n : List ℕ) (o : Option Slot) → i.word < 2 ^ 32 → IsName ns ty n o → type_of_expression (resolved_name ns n o) ≡ ty
name_type i ns ty n (Some l) g h = sym h
name_type i ns ty n None g h = other_type i ns ty n (register_in 0 ns.registers n) g h

entry_type : (o : Option Entries) (ty : Ty) (base at : Expression) → type_of_expression (resolved_entry o ty base at) ≡ ty
entry_type (Some t) ty base at = refl
entry_type None ty base at = refl

operand_type : (ps : List Piece) (f : List ℕ) → type_of_expression (operand_expression ps f) ≡ u32
operand_type ps f = cond_both (stands_at_15 ps f) (x_read k.RdRS1 u32) (x_read k.RdRS2 u32) (λ (e : Expression). type_of_expression e ≡ u32) (λ e. refl) (λ e. refl)

index_type : (ns : Names) (ty : Ty) (x : TypedExprTree) (base : Expression) (y : TypedExprTree) (at : Expression) (P Q : Type 0) → IsIndex ns ty x P y Q at
    → type_of_expression (resolved_index ns ty x base y at) ≡ ty
index_type ns ty (t_x s u) base (t_name s' u' f) at P Q h = operand_type ns.pieces f ∙ sym h
index_type ns ty (t_x s u) base _ at P Q h = refl
index_type ns ty (t_mem s u) base index at P Q h = refl
index_type ns ty (t_name s u n) base index at P Q h = entry_type (table_in 0 ns.tables n) ty base at
index_type ns ty _ base index at P Q h = refl

range_type : (ty : Ty) (x : TypedExprTree) (base h l : Expression) → type_of_expression (resolved_range ty x base h l) ≡ ty
range_type ty (t_mem s u) base h l = refl
range_type ty _ base h l = refl

pub type_kept : (i : Inputs) (ns : Names) (ls : List Slot) (e : TypedExprTree) → i.word < 2 ^ 32 → IsResolved ns ls e → type_of_expression (resolved ns ls e) ≡ type_of e
type_kept i ns ls (t_literal s ty lt b) g h = refl
type_kept i ns ls (t_name s ty n) g h = name_type i ns ty n (slot_in ls n) g h
type_kept i ns ls (t_pc s ty) g h = sym h
type_kept i ns ls (t_x s ty) g h = refl
type_kept i ns ls (t_mem s ty) g h = refl
type_kept i ns ls (t_index s ty x y) g h = index_type ns ty x (resolved ns ls x) y (resolved ns ls y) (IsResolved ns ls x) (IsResolved ns ls y) h
type_kept i ns ls (t_range s ty x y z) g h = range_type ty x (resolved ns ls x) (resolved ns ls y) (resolved ns ls z)
type_kept i ns ls (t_unary s ty op x) g h = refl
type_kept i ns ls (t_cast s ty to x) g h = refl
type_kept i ns ls (t_binary s ty op x y) g h = refl
type_kept i ns ls (t_choose s ty c x y) g h = refl

-- ---- numbers: names
abbrev pub at_slot : List ℤ → Option Slot → Option Local
at_slot s None = None
at_slot s (Some l) = Some (local_at s l)

pub slot_kept : (s : List ℤ) (ls : List Slot) (n : List ℕ) → local_in (map (local_at s) ls) n ≡ at_slot s (slot_in ls n)
slot_kept s [] n = refl
slot_kept s (l ∷ ls) n = by (same_bytes l.name n) (slot_kept s ls n)
  where
    by : (b : Bool) → local_in (map (local_at s) ls) n ≡ at_slot s (slot_in ls n)
        → cond b (Some (local_at s l)) (local_in (map (local_at s) ls) n) ≡ at_slot s (cond b (Some l) (slot_in ls n))
    by true e = refl
    by false e = e

other_kept : (i : Inputs) (s : List ℤ) (ns : Names) (ty : Ty) (n : List ℕ) (o : Option Numbered) → i.word < 2 ^ 32 → IsOther ns ty n o → number i s (resolved_other ns n o) ≡ register_or_field ns i n o
other_kept i s ns ty n (Some r) g h = refl
other_kept i s ns ty n None g h = field_is i s ns.pieces n g h.field

name_kept : (i : Inputs) (s : List ℤ) (ns : Names) (ty : Ty) (n : List ℕ) (o : Option Slot) → i.word < 2 ^ 32 → IsName ns ty n o → number i s (resolved_name ns n o) ≡ name_number ns i n (at_slot s o)
name_kept i s ns ty n (Some l) g h = refl
name_kept i s ns ty n None g h = other_kept i s ns ty n (register_in 0 ns.registers n) g h

-- ---- numbers: bits and entries
bits_kept : (i : Inputs) (s : List ℤ) (ty a : Ty) (base h l : Expression) (z u v : ℤ) → type_of_expression base ≡ a → number i s base ≡ z → constant h ≡ unsigned_abs u → constant l ≡ unsigned_abs v
    → number i s (bits ty base h l) ≡ bits_number a z u v
bits_kept i s ty a base h l z u v t e f g =
    ap (λ (n : ℕ). pos (bits_between (pattern_of (type_of_expression base).width (number i s base)) n (constant l))) f
    ∙ ap (λ (n : ℕ). pos (bits_between (pattern_of (type_of_expression base).width (number i s base)) (unsigned_abs u) n)) g
    ∙ ap (λ (b : Ty). bits_number b (number i s base) u v) t
    ∙ ap (λ (y : ℤ). bits_number a y u v) e

operand_kept : (i : Inputs) (s : List ℤ) (ps : List Piece) (f : List ℕ) → number i s (operand_expression ps f) ≡ pos (cond (stands_at_15 ps f) i.rs1 i.rs2)
operand_kept i s ps f = by (stands_at_15 ps f)
  where
    by : (b : Bool) → number i s (cond b (x_read k.RdRS1 u32) (x_read k.RdRS2 u32)) ≡ pos (cond b i.rs1 i.rs2)
    by true = refl
    by false = refl

-- what is known of a part: its type and its number, where its names are resolved so
pub record IsKept (i : Inputs) (s : List ℤ) (e : Expression) (ty : Ty) (z : ℤ) : Type 0 where
  typed : type_of_expression e ≡ ty
  same : number i s e ≡ z

entry_kept : (i : Inputs) (s : List ℤ) (o : Option Entries) (ty a : Ty) (base : Expression) (y : TypedExprTree) (at : Expression) (P : Type 0) (z u : ℤ) → (P → IsKept i s base a z) → number i s at ≡ u → IsEntryOrBit o P y at
    → number i s (resolved_entry o ty base at) ≡ entry_or_bit o ty a z u
entry_kept i s (Some t) ty a base y at P z u f e h = ap (entry_number t.patterns ty) e
entry_kept i s None ty a base y at P z u f e h =
    let b = f h.0 in
    let c = place_kept i s y at u h.1 e in
    bits_kept i s ty a base at at z u u b.typed b.same c c

bit_kept : (i : Inputs) (s : List ℤ) (ty a : Ty) (base : Expression) (y : TypedExprTree) (at : Expression) (P Q : Type 0) (z u : ℤ) → (P → IsKept i s base a z) → (Q → number i s at ≡ u) → P × Q × IsPlace y at
    → number i s (bits ty base at at) ≡ bits_number a z u u
bit_kept i s ty a base y at P Q z u f e h =
    let b = f h.0 in
    let c = place_kept i s y at u h.2 (e h.1) in
    bits_kept i s ty a base at at z u u b.typed b.same c c

index_kept : (i : Inputs) (s : List ℤ) (ns : Names) (ty : Ty) (x : TypedExprTree) (base : Expression) (y : TypedExprTree) (at : Expression) (P Q : Type 0) (z u : ℤ)
    → (P → IsKept i s base (type_of x) z) → (Q → number i s at ≡ u) → IsIndex ns ty x P y Q at
    → number i s (resolved_index ns ty x base y at) ≡ index_number ns i ty x z y u
index_kept i s ns ty (t_x a b) base (t_name c d f) at P Q z u p q h = operand_kept i s ns.pieces f
index_kept i s ns ty (t_x a b) base y at P Q z u p q h = bit_kept i s ty b base y at P Q z u p q h
index_kept i s ns ty (t_mem a b) base y at P Q z u p q h = ap (loaded i.memory ty) (q h)
index_kept i s ns ty (t_name a b n) base y at P Q z u p q h = entry_kept i s (table_in 0 ns.tables n) ty b base y at P z u p (q h.0) h.1
index_kept i s ns ty _ base y at P Q z u p q h = bit_kept i s ty _ base y at P Q z u p q h

range_kept : (i : Inputs) (s : List ℤ) (ty : Ty) (x y w : TypedExprTree) (base a b : Expression) (P H L : Type 0) (z u v : ℤ)
    → (P → IsKept i s base (type_of x) z) → (H → number i s a ≡ u) → (L → number i s b ≡ v) → IsRange x P y H w L a b
    → number i s (resolved_range ty x base a b) ≡ range_number i ty x z u v
range_kept i s ty (t_mem c d) y w base a b P H L z u v p f g h = ap (loaded i.memory ty) (g h)
range_kept i s ty _ y w base a b P H L z u v p f g h =
    let k = p h.0 in
    bits_kept i s ty _ base a b z u v k.typed k.same (place_kept i s y a u h.3 (f h.1)) (place_kept i s w b v h.4 (g h.2))

unary_kept : (op : UnOp) (a ty : Ty) (z : ℤ) → one_number (unary_kind op) a ty z ≡ unary_number op a z
unary_kept U.Neg a ty z = refl
unary_kept U.Not a ty z = refl
unary_kept U.Lnot a ty z = refl

-- ---- expressions
pub number_kept : (ns : Names) (ls : List Slot) (i : Inputs) (s : List ℤ) (e : TypedExprTree) → i.word < 2 ^ 32 → IsResolved ns ls e
    → number i s (resolved ns ls e) ≡ number_by_name ns i (map (local_at s) ls) e
number_kept ns ls i s (t_literal a ty lt b) g h = refl
number_kept ns ls i s (t_name a ty n) g h = name_kept i s ns ty n (slot_in ls n) g h ∙ ap (name_number ns i n) (sym (slot_kept s ls n))
number_kept ns ls i s (t_pc a ty) g h = refl
number_kept ns ls i s (t_x a ty) g h = zero_is ty
number_kept ns ls i s (t_mem a ty) g h = zero_is ty
number_kept ns ls i s (t_index a ty x y) g h =
    index_kept i s ns ty x (resolved ns ls x) y (resolved ns ls y) (IsResolved ns ls x) (IsResolved ns ls y) _ _
    (λ p. record { typed = type_kept i ns ls x g p; same = number_kept ns ls i s x g p }) (λ q. number_kept ns ls i s y g q) h
number_kept ns ls i s (t_range a ty x y z) g h =
    range_kept i s ty x y z (resolved ns ls x) (resolved ns ls y) (resolved ns ls z) (IsResolved ns ls x) (IsResolved ns ls y) (IsResolved ns ls z) _ _ _
    (λ p. record { typed = type_kept i ns ls x g p; same = number_kept ns ls i s x g p }) (λ q. number_kept ns ls i s y g q) (λ q. number_kept ns ls i s z g q) h
number_kept ns ls i s (t_unary a ty op x) g h =
    let e = resolved ns ls x in
    unary_kept op (type_of_expression e) ty (number i s e)
    ∙ ap (λ (b : Ty). unary_number op b (number i s e)) (type_kept i ns ls x g h)
    ∙ ap (unary_number op (type_of x)) (number_kept ns ls i s x g h)
number_kept ns ls i s (t_cast a ty to x) g h = ap (fit ty) (number_kept ns ls i s x g h)
number_kept ns ls i s (t_binary a ty op x y) g h =
    let e = resolved ns ls x in
    let f = resolved ns ls y in
    ap (λ (b : Ty). binary_number op b (number i s e) (type_of_expression f) (number i s f)) (type_kept i ns ls x g h.0)
    ∙ ap (λ (b : Ty). binary_number op (type_of x) (number i s e) b (number i s f)) (type_kept i ns ls y g h.1)
    ∙ ap (λ (z : ℤ). binary_number op (type_of x) z (type_of y) (number i s f)) (number_kept ns ls i s x g h.0)
    ∙ ap (binary_number op (type_of x) (number_by_name ns i (map (local_at s) ls) x) (type_of y)) (number_kept ns ls i s y g h.1)
number_kept ns ls i s (t_choose a ty c x y) g h =
    let e = resolved ns ls x in
    let f = resolved ns ls y in
    ap (λ (z : ℤ). cond (is_true z) (number i s e) (number i s f)) (number_kept ns ls i s c g h.0)
    ∙ ap (λ (z : ℤ). cond (is_true (number_by_name ns i (map (local_at s) ls) c)) z (number i s f)) (number_kept ns ls i s x g h.1)
    ∙ ap (λ (z : ℤ). cond (is_true (number_by_name ns i (map (local_at s) ls) c)) (number_by_name ns i (map (local_at s) ls) x) z) (number_kept ns ls i s y g h.2)

pub resolving_law : ResolvingLaw
resolving_law ns ls i s e g h = number_kept ns ls i s e g h
