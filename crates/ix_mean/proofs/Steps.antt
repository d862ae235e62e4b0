-- Resolving the names of a statement keeps what it does.
use Rattle.std.proofs.Common.{◌≡◌, ℕ, ◌+◌, ◌-◌, ◌^◌, ◌<◌, ◌≤◌, refl, sym, ap, subst, ◌∙◌, arith, Bool, true, false, cond, Option, Some, None, ℤ, pos, List, [], ◌∷◌, ◌++◌, map, get_or, set, drop, length, length-set, length-append}
use Rattle.std.proofs.lemmas.List.{get_or-set_same, get_or-set_other, length-map, length_push, map-append}
use Rattle.std.proofs.Math.Seq.{drop-append_seam}
use Rattle.ix_bits.specs.declared.number.Ty.{Ty}
use Rattle.ix_bits.specs.declared.operator.BinOp.{BinOp}
use Rattle.ix_bits.specs.Operators.{fit, is_true, binary_number}
use Rattle.ix_tree.specs.Lexing.{same_bytes}
use Rattle.ix_tree.specs.TypedTrees.{TypedExprTree, TypedLvalueTree, tl_name, tl_pc, tl_x, tl_mem, TypedDeclTree, TypedStmtTree, ts_block, ts_empty, ts_locals, ts_assign, ts_if, ts_if_else, ts_spawn, TypedRow, typed_end, typed_more, type_of}
use Rattle.ix_mean.specs.Core.{u32, Expression, x_slot, type_of_expression, Statement, st_skip, st_then, st_set, st_write, st_if}
use Rattle.ix_mean.specs.Meaning.{Inputs, Write, Numbers, number, run}
use Rattle.ix_mean.specs.ByName.{Names, Local, Numbered, register_in, register_number, number_by_name}
use Rattle.ix_mean.specs.EffectByName.{Doing, leaves, type_of_text, first_number, all_declared, set_local, assigned_number, assigns_register, assigns_name, assigns, does, does_row}
use Rattle.ix_mean.specs.Resolving.{Slot, slot_in, resolved, local_at, register_read}
use Rattle.ix_mean.specs.ResolvingStatements.{Scope, declared, initial, declarations, operated, register_written, name_written, written, left, step, step_row, IsInitial, AreDeclared, IsTarget, IsResolvedStatement, IsResolvedRow, doing, outside, StepLaw}
use Rattle.ix_mean.proofs.Effecting.{zero_is}
use Rattle.ix_mean.proofs.Resolvings.{at_slot, slot_kept, number_kept, type_kept}

-- ---- scopes: the newest local has the greatest slot
abbrev pub Descend : ℕ → List Slot → Type 0
Descend n [] = Unit {0}
Descend n (l ∷ ls) = (l.slot < n) × Descend l.slot ls

descend_more : (n m : ℕ) (ls : List Slot) → n ≤ m → Descend n ls → Descend m ls
descend_more n m [] l h = tt
descend_more n m (x ∷ xs) l h = (omega (arith, h.0), h.1)

-- the scope behind a statement: its locals stand before those of the scope before, and no slot is given back
pub record Goes (sc new : Scope) : Type 0 where
  pub fresh : List Slot
  pub over : new.locals ≡ fresh ++ sc.locals
  pub more : length sc.slots ≤ length new.slots
  pub descends : Descend (length new.slots) new.locals

stays : (sc : Scope) → Descend (length sc.slots) sc.locals → Goes sc sc
stays sc h = record { fresh = []; over = refl; more = omega arith; descends = h }

append_assoc : (xs ys zs : List Slot) → xs ++ (ys ++ zs) ≡ (xs ++ ys) ++ zs
append_assoc [] ys zs = refl
append_assoc (x ∷ xs) ys zs = ap (λ (l : List Slot). x ∷ l) (append_assoc xs ys zs)

goes_on : (a b c : Scope) → Goes a b → Goes b c → Goes a c
goes_on a b c g h = record {
  fresh = h.fresh ++ g.fresh;
  over = h.over ∙ ap (λ (l : List Slot). h.fresh ++ l) g.over ∙ append_assoc h.fresh g.fresh a.locals;
  more = omega (arith, g.more, h.more);
  descends = h.descends;
}

pub goes_left : (sc new : Scope) → Descend (length sc.slots) sc.locals → Goes sc new → Goes sc (left sc new)
goes_left sc new d g = record { fresh = []; over = refl; more = g.more; descends = descend_more (length sc.slots) (length new.slots) sc.locals g.more d }

pub goes_declared : (sc : Scope) (n : List ℕ) (ty : Ty) (e : Expression) → Descend (length sc.slots) sc.locals → Goes sc (declared sc n ty e).scope
goes_declared sc n ty e d =
    let long = length_push sc.slots ty in
    record {
      fresh = record { name = n; ty = ty; slot = length sc.slots } ∷ [];
      over = refl;
      more = omega (arith, long);
      descends = (omega (arith, long), d);
    }

pub goes_declarations : (ns : Names) (ty : Ty) (ds : List TypedDeclTree) (sc : Scope) → Descend (length sc.slots) sc.locals → Goes sc (declarations ns ty ds sc).scope
goes_declarations ns ty [] sc d = stays sc d
goes_declarations ns ty (x ∷ xs) sc d =
    let one = goes_declared sc x.name ty (initial ns sc ty x.value) d in
    let here = (declared sc x.name ty (initial ns sc ty x.value)).scope in
    goes_on sc here (declarations ns ty xs here).scope one (goes_declarations ns ty xs here one.descends)

mutual
  pub goes : (ns : Names) (x : TypedStmtTree) (sc : Scope) → Descend (length sc.slots) sc.locals → Goes sc (step ns x sc).scope
  goes ns (ts_block s all) sc d = goes_left sc (step_row ns all sc).scope d (goes_row ns all sc d)
  goes ns (ts_empty s) sc d = stays sc d
  goes ns (ts_locals s ty ds) sc d = goes_declarations ns (type_of_text ty) ds sc d
  goes ns (ts_assign s a) sc d = stays sc d
  goes ns (ts_if s c x) sc d = goes_left sc (step ns x sc).scope d (goes ns x sc d)
  goes ns (ts_if_else s c x y) sc d =
      let one = goes_left sc (step ns x sc).scope d (goes ns x sc d) in
      let here = left sc (step ns x sc).scope in
      let two = goes ns y here one.descends in
      goes_left sc (step ns y here).scope d (goes_on sc here (step ns y here).scope one two)
  goes ns (ts_spawn s x) sc d = goes_left sc (step ns x sc).scope d (goes ns x sc d)

  pub goes_row : (ns : Names) (all : TypedRow) (sc : Scope) → Descend (length sc.slots) sc.locals → Goes sc (step_row ns all sc).scope
  goes_row ns typed_end sc d = stays sc d
  goes_row ns (typed_more x rest) sc d =
      let one = goes ns x sc d in
      let here = (step ns x sc).scope in
      goes_on sc here (step_row ns rest here).scope one (goes_row ns rest here one.descends)

-- ---- slots stay as many
either_length : (b : Bool) (x y : Numbers) (n : ℕ) → length x.slots ≡ n → length y.slots ≡ n → length (cond b x y).slots ≡ n
either_length true x y n e f = e
either_length false x y n e f = f

pub slots_kept : (i : Inputs) (x : Statement) (s : Numbers) → length (run i x s).slots ≡ length s.slots
slots_kept i st_skip s = refl
slots_kept i (st_then x y) s = slots_kept i y (run i x s) ∙ slots_kept i x s
slots_kept i (st_set k ty e) s = length-set s.slots k (number i s.slots e)
slots_kept i (st_write k ty e a) s = refl
slots_kept i (st_if c x y) s = either_length (is_true (number i s.slots c)) (run i x s) (run i y s) (length s.slots) (slots_kept i x s) (slots_kept i y s)

-- ---- a slot that is set
local_same : (s : List ℤ) (l : Slot) (k : ℕ) (z : ℤ) → (l.slot ≡ k → ⊥) → local_at (set s k z) l ≡ local_at s l
local_same s l k z h = ap (λ (y : ℤ). let x : Local = record { name = l.name; ty = l.ty; number = y } in x) (get_or-set_other s k l.slot z (pos 0) h)

others_kept : (s : List ℤ) (k : ℕ) (z : ℤ) (ls : List Slot) → Descend k ls → map (local_at (set s k z)) ls ≡ map (local_at s) ls
others_kept s k z [] h = refl
others_kept s k z (l ∷ ls) h =
    ap (λ (x : Local). x ∷ map (local_at (set s k z)) ls) (local_same s l k z (λ e. omega (arith, h.0, e)))
    ∙ ap (λ (xs : List Local). local_at s l ∷ xs) (others_kept s k z ls (descend_more l.slot k ls (omega (arith, h.0)) h.1))

-- the slot that a name has is below the bound
found_below : (n : ℕ) (ls : List Slot) (m : List ℕ) (l : Slot) → Descend n ls → slot_in ls m ≡ Some l → l.slot < n
found_below n [] m l h e = cc
found_below n (x ∷ xs) m l h e = by (same_bytes x.name m) e (λ f. found_below x.slot xs m l h.1 f)
  where
    same_slot : (x y : Slot) → Some x ≡ Some y → x.slot ≡ y.slot
    same_slot x y e = cc

    by : (b : Bool) → cond b (Some x) (slot_in xs m) ≡ Some l → (slot_in xs m ≡ Some l → l.slot < x.slot) → l.slot < n
    by true e f = omega (arith, same_slot x l e, h.0)
    by false e f = omega (arith, f e, h.0)

named_kept : (s : List ℤ) (n : ℕ) (ls : List Slot) (m : List ℕ) (l : Slot) (z : ℤ) → l.slot < length s → Descend n ls → slot_in ls m ≡ Some l
    → map (local_at (set s l.slot z)) ls ≡ set_local (map (local_at s) ls) m z
named_kept s n [] m l z w h e = cc
named_kept s n (x ∷ xs) m l z w h e = by (same_bytes x.name m) e (λ f. found_below x.slot xs m l h.1 f) (λ f. named_kept s x.slot xs m l z w h.1 f)
  where
    here : Some x ≡ Some l → local_at (set s l.slot z) x ∷ map (local_at (set s l.slot z)) xs ≡ (let y : Local = record { name = x.name; ty = x.ty; number = z } in y) ∷ map (local_at s) xs
    here e =
        let same : x.slot ≡ l.slot = cc in
        let at : get_or (set s l.slot z) x.slot (pos 0) ≡ z = ap (λ (k : ℕ). get_or (set s l.slot z) k (pos 0)) same ∙ get_or-set_same s l.slot z (pos 0) w in
        let rest : Descend l.slot xs = subst (λ (k : ℕ). Descend k xs) same h.1 in
        ap (λ (y : ℤ). (let t : Local = record { name = x.name; ty = x.ty; number = y } in t) ∷ map (local_at (set s l.slot z)) xs) at
        ∙ ap (λ (ys : List Local). (let t : Local = record { name = x.name; ty = x.ty; number = z } in t) ∷ ys) (others_kept s l.slot z xs rest)

    by : (b : Bool) → cond b (Some x) (slot_in xs m) ≡ Some l → (slot_in xs m ≡ Some l → l.slot < x.slot)
        → (slot_in xs m ≡ Some l → map (local_at (set s l.slot z)) xs ≡ set_local (map (local_at s) xs) m z)
        → local_at (set s l.slot z) x ∷ map (local_at (set s l.slot z)) xs
        ≡ cond b ((let y : Local = record { name = x.name; ty = x.ty; number = z } in y) ∷ map (local_at s) xs) (local_at s x ∷ set_local (map (local_at s) xs) m z)
    by true e f r = here e
    by false e f r =
        ap (λ (y : Local). y ∷ map (local_at (set s l.slot z)) xs) (local_same s x l.slot z (λ g. omega (arith, f e, g)))
        ∙ ap (λ (ys : List Local). local_at s x ∷ ys) (r e)

-- ---- what is left of a scope
leaves_kept : (sc new : Scope) (s t : Numbers) → Goes sc new → doing (left sc new) t ≡ leaves (doing sc s) (doing new t)
leaves_kept sc new s t g =
    let f : Slot → Local = local_at t.slots in
    let whole : map f new.locals ≡ map f g.fresh ++ map f sc.locals = ap (map f) g.over ∙ map-append f g.fresh sc.locals in
    let count : length (map f new.locals) - length (map (local_at s.slots) sc.locals) ≡ length (map f g.fresh) =
    (let a : length (map f new.locals) ≡ length (map f g.fresh) + length (map f sc.locals) = ap length whole ∙ length-append (map f g.fresh) (map f sc.locals) in
    omega (arith, a, length-map sc.locals f, length-map sc.locals (local_at s.slots))) in
    let rest : drop (length (map f new.locals) - length (map (local_at s.slots) sc.locals)) (map f new.locals) ≡ map f sc.locals =
    ap (λ (k : ℕ). drop k (map f new.locals)) count ∙ ap (drop (length (map f g.fresh))) whole ∙ drop-append_seam (map f g.fresh) (map f sc.locals) in
    ap (λ (ls : List Local). let d : Doing = record { locals = ls; targets = t.targets } in d) (sym rest)

-- ---- assignments
doing_as : (ls ms : List Local) (ts us : List (Option Write)) → ls ≡ ms → ts ≡ us → (let d : Doing = record { locals = ls; targets = ts } in d) ≡ (let d : Doing = record { locals = ms; targets = us } in d)
doing_as ls ms ts us e f = ap (λ (x : List Local). let d : Doing = record { locals = x; targets = ts } in d) e ∙ ap (λ (x : List (Option Write)). let d : Doing = record { locals = ms; targets = x } in d) f

operated_kept : (i : Inputs) (s : List ℤ) (op : Option BinOp) (ty a : Ty) (old e : Expression) (y z : ℤ) → type_of_expression old ≡ ty → number i s old ≡ y → type_of_expression e ≡ a → number i s e ≡ z
    → number i s (operated op ty old e) ≡ assigned_number op ty y a z
operated_kept i s None ty a old e y z t f g h = h
operated_kept i s (Some op) ty a old e y z t f g h =
    ap (λ (b : Ty). fit ty (binary_number op b (number i s old) (type_of_expression e) (number i s e))) t
    ∙ ap (λ (v : ℤ). fit ty (binary_number op ty v (type_of_expression e) (number i s e))) f
    ∙ ap (λ (b : Ty). fit ty (binary_number op ty y b (number i s e))) g
    ∙ ap (λ (v : ℤ). fit ty (binary_number op ty y a v)) h

write_kept : (sc : Scope) (s : Numbers) (k : ℕ) (v w a b : ℤ) → v ≡ w → a ≡ b
    → (let d : Doing = record { locals = map (local_at s.slots) sc.locals; targets = set s.targets k (Some (record { value = v; address = a })) } in d)
    ≡ (let d : Doing = record { locals = map (local_at s.slots) sc.locals; targets = set s.targets k (Some (record { value = w; address = b })) } in d)
write_kept sc s k v w a b e f =
    ap (λ (x : ℤ). let d : Doing = record { locals = map (local_at s.slots) sc.locals; targets = set s.targets k (Some (record { value = x; address = a })) } in d) e
    ∙ ap (λ (x : ℤ). let d : Doing = record { locals = map (local_at s.slots) sc.locals; targets = set s.targets k (Some (record { value = w; address = x })) } in d) f

register_kept : (i : Inputs) (sc : Scope) (s : Numbers) (op : Option BinOp) (a : Ty) (e : Expression) (z : ℤ) (o : Option Numbered) → type_of_expression e ≡ a → number i s.slots e ≡ z
    → doing sc (run i (register_written op e o) s) ≡ assigns_register i op a z o (doing sc s)
register_kept i sc s op a e z (Some r) g h =
    write_kept sc s (3 + r.number) _ _ (pos 0) (pos 0) (operated_kept i s.slots op r.ty a (register_read r) e (register_number i r) z refl refl g h) refl
register_kept i sc s op a e z None g h = refl

local_kept : (ns : Names) (i : Inputs) (sc : Scope) (s : Numbers) (op : Option BinOp) (n : List ℕ) (a : Ty) (e : Expression) (z : ℤ) (o : Option Slot) → slot_in sc.locals n ≡ o
    → Descend (length sc.slots) sc.locals → length sc.slots ≤ length s.slots → type_of_expression e ≡ a → number i s.slots e ≡ z
    → doing sc (run i (name_written ns op n e o) s) ≡ assigns_name ns i op n a z (at_slot s.slots o) (doing sc s)
local_kept ns i sc s op n a e z (Some l) f d w g h =
    let below = found_below (length sc.slots) sc.locals n l d f in
    let v = number i s.slots (operated op l.ty (x_slot l.slot l.ty) e) in
    let same : v ≡ assigned_number op l.ty (get_or s.slots l.slot (pos 0)) a z = operated_kept i s.slots op l.ty a (x_slot l.slot l.ty) e (get_or s.slots l.slot (pos 0)) z refl refl g h in
    doing_as (map (local_at (set s.slots l.slot v)) sc.locals) (set_local (map (local_at s.slots) sc.locals) n (assigned_number op l.ty (get_or s.slots l.slot (pos 0)) a z)) s.targets s.targets
    (named_kept s.slots (length sc.slots) sc.locals n l v (omega arith) d f ∙ ap (set_local (map (local_at s.slots) sc.locals) n) same) refl
local_kept ns i sc s op n a e z None f d w g h = register_kept i sc s op a e z (register_in 0 ns.registers n) g h

written_kept : (ns : Names) (i : Inputs) (sc : Scope) (s : Numbers) (op : Option BinOp) (t : TypedLvalueTree) (a : Ty) (e : Expression) (z : ℤ) → i.word < 2 ^ 32
    → Descend (length sc.slots) sc.locals → length sc.slots ≤ length s.slots → type_of_expression e ≡ a → number i s.slots e ≡ z → IsTarget ns sc t
    → doing sc (run i (written ns sc op t e) s) ≡ assigns ns i op t a z (doing sc s)
written_kept ns i sc s op (tl_name n) a e z b d w g h k =
    local_kept ns i sc s op n a e z (slot_in sc.locals n) refl d w g h
    ∙ ap (λ (o : Option Local). assigns_name ns i op n a z o (doing sc s)) (sym (slot_kept s.slots sc.locals n))
written_kept ns i sc s op tl_pc a e z b d w g h k = write_kept sc s 2 _ _ (pos 0) (pos 0) (operated_kept i s.slots op u32 a _ e (pos i.pc) z refl refl g h) refl
written_kept ns i sc s op (tl_x f) a e z b d w g h k = write_kept sc s 1 _ _ (pos 0) (pos 0) h refl
written_kept ns i sc s op (tl_mem x None) a e z b d w g h k = write_kept sc s 0 _ _ _ _ h (number_kept ns sc.locals i s.slots x b k)
written_kept ns i sc s op (tl_mem x (Some y)) a e z b d w g h k = write_kept sc s 0 _ _ _ _ h (number_kept ns sc.locals i s.slots y b k)

-- ---- declarations
pub first_kept : (ns : Names) (i : Inputs) (sc : Scope) (s : Numbers) (ty : Ty) (o : Option TypedExprTree) → i.word < 2 ^ 32 → IsInitial ns sc o
    → number i s.slots (initial ns sc ty o) ≡ first_number ns i (map (local_at s.slots) sc.locals) o
first_kept ns i sc s ty None b h = zero_is ty
first_kept ns i sc s ty (Some e) b h = number_kept ns sc.locals i s.slots e b h

pub declared_kept : (i : Inputs) (sc : Scope) (s : Numbers) (n : List ℕ) (ty : Ty) (e : Expression) (z : ℤ) → Descend (length sc.slots) sc.locals → length sc.slots < length s.slots → number i s.slots e ≡ z
    → doing (declared sc n ty e).scope (run i (declared sc n ty e).body s)
    ≡ (let d : Doing = record { locals = (let l : Local = record { name = n; ty = ty; number = z } in l) ∷ map (local_at s.slots) sc.locals; targets = s.targets } in d)
declared_kept i sc s n ty e z d w h =
    let k = length sc.slots in
    let v = number i s.slots e in
    let at : get_or (set s.slots k v) k (pos 0) ≡ z = get_or-set_same s.slots k v (pos 0) w ∙ h in
    doing_as _ _ s.targets s.targets
    (ap (λ (y : ℤ). (let l : Local = record { name = n; ty = ty; number = y } in l) ∷ map (local_at (set s.slots k v)) sc.locals) at
    ∙ ap (λ (ls : List Local). (let l : Local = record { name = n; ty = ty; number = z } in l) ∷ ls) (others_kept s.slots k v sc.locals d))
    refl

declarations_kept : (ns : Names) (i : Inputs) (ty : Ty) (ds : List TypedDeclTree) (sc : Scope) (s : Numbers) → i.word < 2 ^ 32 → Descend (length sc.slots) sc.locals → AreDeclared ns ty ds sc
    → length (declarations ns ty ds sc).scope.slots ≤ length s.slots
    → doing (declarations ns ty ds sc).scope (run i (declarations ns ty ds sc).body s) ≡ all_declared ns i ty ds (doing sc s)
declarations_kept ns i ty [] sc s b d h w = refl
declarations_kept ns i ty (x ∷ xs) sc s b d h w =
    let one = declared sc x.name ty (initial ns sc ty x.value) in
    let g = goes_declared sc x.name ty (initial ns sc ty x.value) d in
    let rest = goes_declarations ns ty xs one.scope g.descends in
    let long = length_push sc.slots ty in
    let next = run i one.body s in
    let same = slots_kept i one.body s in
    declarations_kept ns i ty xs one.scope next b g.descends h.1 (omega (arith, w, same))
    ∙ ap (all_declared ns i ty xs)
    (declared_kept i sc s x.name ty (initial ns sc ty x.value) (first_number ns i (map (local_at s.slots) sc.locals) x.value) d (omega (arith, w, rest.more, long))
    (first_kept ns i sc s ty x.value b h.0))

-- ---- statements
either_kept : (sc : Scope) (b c : Bool) (x y : Numbers) (d e : Doing) → b ≡ c → doing sc x ≡ d → doing sc y ≡ e → doing sc (cond b x y) ≡ cond c d e
either_kept sc true c x y d e f g h = rw (← f) g
either_kept sc false c x y d e f g h = rw (← f) h

mutual
  pub kept : (ns : Names) (i : Inputs) (x : TypedStmtTree) (sc : Scope) (s : Numbers) → i.word < 2 ^ 32 → Descend (length sc.slots) sc.locals → IsResolvedStatement ns x sc
      → length (step ns x sc).scope.slots ≤ length s.slots → doing (step ns x sc).scope (run i (step ns x sc).body s) ≡ does ns i x (doing sc s)
  kept ns i (ts_block a all) sc s b d h w =
      leaves_kept sc (step_row ns all sc).scope s (run i (step_row ns all sc).body s) (goes_row ns all sc d) ∙ ap (leaves (doing sc s)) (kept_row ns i all sc s b d h w)
  kept ns i (ts_empty a) sc s b d h w = refl
  kept ns i (ts_locals a ty ds) sc s b d h w = declarations_kept ns i (type_of_text ty) ds sc s b d h w
  kept ns i (ts_assign t a) sc s b d h w =
      written_kept ns i sc s a.op a.target.tree (type_of a.value) (resolved ns sc.locals a.value) (number_by_name ns i (map (local_at s.slots) sc.locals) a.value) b d w
      (type_kept i ns sc.locals a.value b h.0) (number_kept ns sc.locals i s.slots a.value b h.0) h.1
  kept ns i (ts_if a c x) sc s b d h w =
      either_kept (left sc (step ns x sc).scope) _ _ (run i (step ns x sc).body s) s (leaves (doing sc s) (does ns i x (doing sc s))) (doing sc s)
      (ap is_true (number_kept ns sc.locals i s.slots c b h.0))
      (leaves_kept sc (step ns x sc).scope s (run i (step ns x sc).body s) (goes ns x sc d) ∙ ap (leaves (doing sc s)) (kept ns i x sc s b d h.1 w)) refl
  kept ns i (ts_if_else a c x y) sc s b d h w =
      let here = left sc (step ns x sc).scope in
      let one = goes_left sc (step ns x sc).scope d (goes ns x sc d) in
      let two = goes ns y here one.descends in
      let whole = goes_on sc here (step ns y here).scope one two in
      either_kept sc _ _ (run i (step ns x sc).body s) (run i (step ns y here).body s) (leaves (doing sc s) (does ns i x (doing sc s))) (leaves (doing sc s) (does ns i y (doing sc s)))
      (ap is_true (number_kept ns sc.locals i s.slots c b h.0))
      (leaves_kept sc (step ns x sc).scope s (run i (step ns x sc).body s) (goes ns x sc d) ∙ ap (leaves (doing sc s)) (kept ns i x sc s b d h.1 (omega (arith, w, two.more))))
      (leaves_kept sc (step ns y here).scope s (run i (step ns y here).body s) whole ∙ ap (leaves (doing sc s)) (kept ns i y here s b one.descends h.2 w))
  kept ns i (ts_spawn a x) sc s b d h w =
      leaves_kept sc (step ns x sc).scope s (run i (step ns x sc).body s) (goes ns x sc d) ∙ ap (leaves (doing sc s)) (kept ns i x sc s b d h w)

  kept_row : (ns : Names) (i : Inputs) (all : TypedRow) (sc : Scope) (s : Numbers) → i.word < 2 ^ 32 → Descend (length sc.slots) sc.locals → IsResolvedRow ns all sc
      → length (step_row ns all sc).scope.slots ≤ length s.slots → doing (step_row ns all sc).scope (run i (step_row ns all sc).body s) ≡ does_row ns i all (doing sc s)
  kept_row ns i typed_end sc s b d h w = refl
  kept_row ns i (typed_more x rest) sc s b d h w =
      let here = (step ns x sc).scope in
      let g = goes ns x sc d in
      let r = goes_row ns rest here g.descends in
      let next = run i (step ns x sc).body s in
      let same = slots_kept i (step ns x sc).body s in
      kept_row ns i rest here next b g.descends h.1 (omega (arith, w, same)) ∙ ap (does_row ns i rest) (kept ns i x sc s b d h.0 (omega (arith, w, r.more)))

pub step_law : StepLaw
step_law ns i x s b h w = kept ns i x outside s b tt h w
