-- In a typed tree whose names resolve, what the code makes is what the names resolve to.
use Rattle.std.proofs.Common.{◌≡◌, ◌∙◌, sym, ap, subst, refl, ℕ, zero, suc, ◌+◌, ◌-◌, ◌<◌, ◌≤◌, min, List, [], ◌∷◌, map, Option, Some, None, Bool, true, false, ℤ, pos, negsuc, arith}
use Rattle.std.specs.Prelude.{nat_lt, int_lt, int_le, unsigned_abs, if◌then◌else◌}
use Rattle.std.proofs.lemmas.Bool.{lt-leb}
use Rattle.ix_bits.specs.declared.number.Ty.{Ty}
use Rattle.ix_bits.specs.NearTypes.{type_near}
use Rattle.ix_graph.specs.declared.kind.Kind.TheVariants as k
use Rattle.ix_tree.specs.declared.extension.Piece.{Piece}
use Rattle.ix_tree.specs.Lexing.{same_bytes}
use Rattle.ix_tree.specs.TypedTrees.{TypedExprTree, t_literal, t_name, t_pc, t_x, t_mem, t_index, t_range, t_unary, t_cast, t_binary, t_choose}
use Rattle.ix_mean.specs.Core.{u1, u32, Expression, x_const, x_read, x_load, x_one, x_cast, x_entry, x_two, x_choose, type_of_expression}
use Rattle.ix_mean.specs.Typing.{Frame, IsTypedExpression}
use Rattle.ix_mean.specs.ByName.{Names, Numbered, register_in, Entries, table_in}
use Rattle.ix_mean.specs.Resolving.{Slot, slot_in, word_part, behind, with_zeros, field_from, pieces_of, insert, ordered, top_of, some_or, field_expression, resolved_other, resolved_name, unary_kind, constant, bits, resolved_entry, resolved_index, resolved_range, resolved, IsPlace, IsEntryOrBit, IsIndex, IsRange, IsResolved}
use Rattle.ix_slots.specs.declared.field.Part.{Part}
use Rattle.ix_slots.specs.Made.{place_in, place_of, part_of, put_part, parts_of, top_of_parts, made_part, put_behind, made_from, made_field, made_other, made_name, made_bits, made_entry, made_index, made_range, made}

-- ---- the parts of a field
put_case : (b : Bool) (p q : Piece) (qs rs : List Piece) (ps : List Part) → map part_of rs ≡ ps
    → map part_of (if b then p ∷ q ∷ qs else q ∷ rs) ≡ (if b then part_of p ∷ part_of q ∷ map part_of qs else part_of q ∷ ps)
put_case true p q qs rs ps e = refl
put_case false p q qs rs ps e = ap (λ (z : List Part). part_of q ∷ z) e

put_is : (p : Piece) (qs : List Piece) → map part_of (insert p qs) ≡ put_part (part_of p) (map part_of qs)
put_is p [] = refl
put_is p (q ∷ qs) = put_case (nat_lt q.hi p.hi) p q qs (insert p qs) (put_part (part_of p) (map part_of qs)) (put_is p qs)

parts_case : (b : Bool) (p : Piece) (qs : List Piece) (ps : List Part) → ps ≡ map part_of (ordered qs)
    → (if b then put_part (part_of p) ps else ps) ≡ map part_of (ordered (if b then p ∷ qs else qs))
parts_case true p qs ps e = ap (put_part (part_of p)) e ∙ sym (put_is p (ordered qs))
parts_case false p qs ps e = e

parts_is : (ps : List Piece) (n : List ℕ) → parts_of ps n ≡ map part_of (ordered (pieces_of ps n))
parts_is [] n = refl
parts_is (p ∷ ps) n = parts_case (same_bytes p.field n) p (pieces_of ps n) (parts_of ps n) (parts_is ps n)

top_is : (qs : List Piece) → top_of_parts (map part_of qs) ≡ top_of qs
top_is [] = refl
top_is (q ∷ qs) = refl

-- ---- what stands in front is typed where the whole is
behind_is : (d : Option Expression) (e : Expression) → behind d e ≡ Some (put_behind d e)
behind_is None e = refl
behind_is (Some d) e = refl

behind_typed : (f : Frame) (d : Option Expression) (e : Expression) → IsTypedExpression f (put_behind d e) → IsTypedExpression f e
behind_typed f None e h = h
behind_typed f (Some d) e h = h.1

front_typed : (f : Frame) (d : Option Expression) (e z : Expression) → IsTypedExpression f (put_behind d e) → d ≡ Some z → IsTypedExpression f z
front_typed f None e z h i = cc
front_typed f (Some d) e z h i =
    let same : d ≡ z = cc in
    subst (IsTypedExpression f) same h.0

zeros_typed : (f : Frame) (z w : Expression) (n : ℕ) → IsTypedExpression f (some_or (with_zeros (Some z) n) w) → IsTypedExpression f z
zeros_typed f z w zero h = h
zeros_typed f z w (suc n) h = h.0

-- zeros behind what stands in front, and an expression behind these
gap_typed : (f : Frame) (z e : Expression) (n : ℕ) → IsTypedExpression f (put_behind (with_zeros (Some z) n) e) → IsTypedExpression f z
gap_typed f z e zero h = h.0
gap_typed f z e (suc n) h = h.0.0

from_typed : (f : Frame) (z w : Expression) (b : ℕ) (ps : List Piece) → IsTypedExpression f (some_or (field_from (Some z) b ps) w) → IsTypedExpression f z
from_typed f z w b [] h = zeros_typed f z w b h
from_typed f z w b (p ∷ ps) h =
    let P : Option Expression → Type 0 = λ d. IsTypedExpression f (some_or (field_from d p.lo ps) w) in
    let next = put_behind (with_zeros (Some z) (b - (p.hi + 1))) (word_part p) in
    gap_typed f z (word_part p) (b - (p.hi + 1)) (from_typed f next w p.lo ps (subst P (behind_is (with_zeros (Some z) (b - (p.hi + 1))) (word_part p)) h))

least_of_both : (n : ℕ) → n < 256 → min n 255 ≡ n
least_of_both n h = omega arith

part_is : (f : Frame) (p : Piece) → IsTypedExpression f (word_part p) → made_part (part_of p) ≡ word_part p
part_is f p h =
    let within : p.at + (p.hi - p.lo) < 32 = h.1.within in
    ap (λ (n : ℕ). x_one (k.Range n p.at) (type_near false (p.hi - p.lo + 1)) (x_read k.RdInstr u32)) (least_of_both (p.at + (p.hi - p.lo)) (omega arith))

from_is : (f : Frame) (w : Expression) (d : Option Expression) (b : ℕ) (ps : List Piece) → IsTypedExpression f (some_or (field_from d b ps) w)
    → made_from d b (map part_of ps) ≡ field_from d b ps
from_is f w d b [] h = refl
from_is f w d b (p ∷ ps) h =
    let gap = with_zeros d (b - (p.hi + 1)) in
    let P : Option Expression → Type 0 = λ d. IsTypedExpression f (some_or (field_from d p.lo ps) w) in
    let next = put_behind gap (word_part p) in
    let typed : IsTypedExpression f (some_or (field_from (Some next) p.lo ps) w) = subst P (behind_is gap (word_part p)) h in
    let part = part_is f p (behind_typed f gap (word_part p) (from_typed f next w p.lo ps typed)) in
    ap (λ (e : Expression). made_from (Some (put_behind gap e)) p.lo (map part_of ps)) part
    ∙ from_is f w (Some next) p.lo ps typed
    ∙ ap (λ (d : Option Expression). field_from d p.lo ps) (sym (behind_is gap (word_part p)))

field_is : (f : Frame) (ps : List Piece) (n : List ℕ) → IsTypedExpression f (field_expression ps n) → made_field ps n ≡ field_expression ps n
field_is f ps n h =
    let qs = ordered (pieces_of ps n) in
    let zero_bit = x_const u1 0 in
    ap (λ (xs : List Part). some_or (made_from None (top_of_parts xs) xs) zero_bit) (parts_is ps n)
    ∙ ap (λ (t : ℕ). some_or (made_from None t (map part_of qs)) zero_bit) (top_is qs)
    ∙ ap (λ (d : Option Expression). some_or d zero_bit) (from_is f zero_bit None (top_of qs) qs h)

-- ---- names
other_is : (f : Frame) (ns : Names) (n : List ℕ) (o : Option Numbered) → IsTypedExpression f (resolved_other ns n o) → made_other ns n o ≡ resolved_other ns n o
other_is f ns n (Some r) h = refl
other_is f ns n None h = field_is f ns.pieces n h

name_is : (f : Frame) (ns : Names) (n : List ℕ) (o : Option Slot) → IsTypedExpression f (resolved_name ns n o) → made_name ns n o ≡ resolved_name ns n o
name_is f ns n (Some l) h = refl
name_is f ns n None h = other_is f ns n (register_in 0 ns.registers n) h

-- ---- places of bits
place_number : (z : ℤ) → int_le (pos 0) z ≡ true → unsigned_abs z < 256 → (if int_lt z (pos 0) then 0 else min (unsigned_abs z) 255) ≡ unsigned_abs z
place_number (pos n) e h =
    let least : int_lt (pos n) (pos 0) ≡ false = lt-leb (suc n) 0 (omega arith) in
    ap (λ (b : Bool). if b then 0 else min n 255) least ∙ least_of_both n h
place_number (negsuc n) e h = cc

place_is : (y : TypedExprTree) (at : Expression) → IsPlace y at → constant at < 256 → place_of y ≡ constant at
place_is y at p h =
    let same : constant at ≡ unsigned_abs p.value.number = ap unsigned_abs p.same in
    let P : ℕ → Type 0 = λ n. n < 256 in
    ap place_in p.is ∙ place_number p.value.number p.least (subst P same h) ∙ sym same

bits_is : (f : Frame) (ty : Ty) (b c h l : Expression) (y z : TypedExprTree) → IsTypedExpression f (bits ty c h l) → b ≡ c → IsPlace y h → IsPlace z l
    → made_bits ty b y z ≡ bits ty c h l
bits_is f ty b c h l y z t e p q =
    let within : constant h < (type_of_expression c).width = t.1.within in
    let most : (type_of_expression c).width ≤ 128 = (type_of_expression c).most_width in
    let order : constant l ≤ constant h = t.1.order in
    let first = place_is y h p (omega arith) in
    let second = place_is z l q (omega arith) in
    ap (λ (n : ℕ). x_one (k.Range n (place_of z)) ty b) first ∙ ap (λ (n : ℕ). x_one (k.Range (constant h) n) ty b) second ∙ ap (x_one (k.Range (constant h) (constant l)) ty) e

-- ---- expressions
-- what is made of a part is what it resolves to, where that is typed and its names resolve
abbrev Same : Frame → Type 0 → Expression → Expression → Type 0
Same f P e r = IsTypedExpression f r → P → e ≡ r

entry_is : (f : Frame) (ty : Ty) (o : Option Entries) (y : TypedExprTree) (b c d e : Expression) (P Q : Type 0) → Same f P b c → Same f Q d e
    → IsTypedExpression f (resolved_entry o ty c e) → Q × IsEntryOrBit o P y e → made_entry o ty b y d ≡ resolved_entry o ty c e
entry_is f ty (Some t) y b c d e P Q p q h r = ap (x_entry t.number t.patterns ty) (q h.0 r.0)
entry_is f ty None y b c d e P Q p q h r = bits_is f ty b c e e y y h (p h.0 r.1.0) r.1.1 r.1.1

index_is : (f : Frame) (ns : Names) (ty : Ty) (x y : TypedExprTree) (b c d e : Expression) (P Q : Type 0) → Same f P b c → Same f Q d e
    → IsTypedExpression f (resolved_index ns ty x c y e) → IsIndex ns ty x P y Q e → made_index ns ty x b y d ≡ resolved_index ns ty x c y e
index_is f ns ty (t_x s u) (t_name s' u' n) b c d e P Q p q h r = refl
index_is f ns ty (t_mem s u) y b c d e P Q p q h r = ap (x_load ty) (q h.0 r)
index_is f ns ty (t_name s u n) y b c d e P Q p q h r = entry_is f ty (table_in 0 ns.tables n) y b c d e P Q p q h r
index_is f ns ty x y b c d e P Q p q h r = bits_is f ty b c e e y y h (p h.0 r.0) r.2 r.2

range_is : (f : Frame) (ty : Ty) (x y z : TypedExprTree) (b c h l m : Expression) (P H L : Type 0) → Same f P b c → Same f L l m
    → IsTypedExpression f (resolved_range ty x c h m) → IsRange x P y H z L h m → made_range ty x b y z l ≡ resolved_range ty x c h m
range_is f ty (t_mem s u) y z b c h l m P H L p q t r = ap (x_load ty) (q t.0 r)
range_is f ty x y z b c h l m P H L p q t r = bits_is f ty b c h m y z t (p t.0 r.0) r.3 r.4

pub made_is : (f : Frame) (ns : Names) (ls : List Slot) (e : TypedExprTree) → Same f (IsResolved ns ls e) (made ns ls e) (resolved ns ls e)
made_is f ns ls (t_literal s ty lt b) h r = refl
made_is f ns ls (t_name s ty n) h r = name_is f ns n (slot_in ls n) h
made_is f ns ls (t_pc s ty) h r = refl
made_is f ns ls (t_x s ty) h r = refl
made_is f ns ls (t_mem s ty) h r = refl
made_is f ns ls (t_index s ty x y) h r =
    index_is f ns ty x y (made ns ls x) (resolved ns ls x) (made ns ls y) (resolved ns ls y) (IsResolved ns ls x) (IsResolved ns ls y) (made_is f ns ls x) (made_is f ns ls y) h r
made_is f ns ls (t_range s ty x y z) h r =
    range_is f ty x y z (made ns ls x) (resolved ns ls x) (resolved ns ls y) (made ns ls z) (resolved ns ls z) (IsResolved ns ls x) (IsResolved ns ls y) (IsResolved ns ls z)
    (made_is f ns ls x) (made_is f ns ls z) h r
made_is f ns ls (t_unary s ty op x) h r = ap (x_one (unary_kind op) ty) (made_is f ns ls x h.0 r)
made_is f ns ls (t_cast s ty to x) h r = ap (x_cast ty) (made_is f ns ls x h r)
made_is f ns ls (t_binary s ty op x y) h r =
    ap (λ (e : Expression). x_two op ty e (made ns ls y)) (made_is f ns ls x h.0 r.0) ∙ ap (x_two op ty (resolved ns ls x)) (made_is f ns ls y h.1 r.1)
made_is f ns ls (t_choose s ty c x y) h r =
    ap (λ (e : Expression). x_choose ty e (made ns ls x) (made ns ls y)) (made_is f ns ls c h.0 r.0)
    ∙ ap (λ (e : Expression). x_choose ty (resolved ns ls c) e (made ns ls y)) (made_is f ns ls x h.1 r.1)
    ∙ ap (x_choose ty (resolved ns ls c) (resolved ns ls x)) (made_is f ns ls y h.2 r.2)
