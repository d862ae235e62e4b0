-- A map that keeps the places of locals, where one is declared or taken away.
use Rattle.std.proofs.Common.{◌≡◌, ◌∙◌, sym, ap, refl, ℕ, suc, ◌-◌, ◌<◌, ◌≤◌, List, [], ◌∷◌, ◌++◌, drop, length, length-append, Option, Some, Bool, true, false, cond, String, BTreeMap, IsSome, append_assoc, arith}
use Rattle.std.specs.Prelude.{option_map, if◌then◌else◌}
use Rattle.std.specs.BTreeMap.{get_by_text}
use Rattle.std.specs.Map.{update}
use Rattle.std.specs.Cmp.Lexicographic.{bytes_decides}
use Rattle.std.specs.Str.{bytes_eq}
use Rattle.ix_tree.specs.Lexing.{same_bytes}
use Rattle.ix_tree.proofs.Names.{same_is}
use Rattle.ix_bits.specs.declared.number.Ty.{Ty}
use Rattle.ix_mean.specs.Resolving.{Slot, slot_in}
use Rattle.ix_mean.specs.ResolvingStatements.{Scope}
use Rattle.ix_slots.specs.declared.locals.Local.{Local}
use Rattle.ix_slots.specs.declared.locals.Place.{Place}
use Rattle.ix_slots.specs.Kept.{slot_of, newest_first, scope_of, place_of, place_at, with_local, places_before, IsKept}

pub newest_push : (xs : List Local) (x : Local) → newest_first (xs ++ x ∷ []) ≡ slot_of x ∷ newest_first xs
newest_push [] x = refl
newest_push (y ∷ ys) x = ap (λ (z : List Slot). z ++ slot_of y ∷ []) (newest_push ys x)

pub newest_length : (xs : List Local) → length (newest_first xs) ≡ length xs
newest_length [] = refl
newest_length (x ∷ xs) = omega (arith, length-append (newest_first xs) (slot_of x ∷ []), newest_length xs)

picked : (b : Bool) (x : Local) (o : Option Slot) → cond b (Some x.place) (option_map place_of o) ≡ option_map place_of (if b then Some (slot_of x) else o)
picked true x o = refl
picked false x o = refl

-- the place of a name behind one more declaration
place_updated : (xs : List Local) (x : Local) (n : List ℕ) → update bytes_eq (place_at (newest_first xs)) x.name (Some x.place) n ≡ place_at (newest_first (xs ++ x ∷ [])) n
place_updated xs x n =
    ap (λ (b : Bool). cond b (Some x.place) (place_at (newest_first xs) n)) (same_is x.name n)
    ∙ picked (same_bytes x.name n) x (slot_in (newest_first xs) n)
    ∙ ap (λ (z : List Slot). place_at z n) (sym (newest_push xs x))

append_nil : (ys : List Local) → ys ++ [] ≡ ys
append_nil [] = refl
append_nil (y ∷ ys) = ap (λ (z : List Local). y ∷ z) (append_nil ys)

before_push : (front xs : List Local) (x : Local) → places_before front (xs ++ x ∷ []) ≡ places_before front xs ++ place_at (newest_first (front ++ xs)) x.name ∷ []
before_push front [] x = ap (λ (z : List Local). place_at (newest_first z) x.name ∷ []) (sym (append_nil front))
before_push front (y ∷ xs) x =
    ap (λ (z : List (Option Place)). place_at (newest_first front) y.name ∷ z)
    (before_push (front ++ y ∷ []) xs x
    ∙ ap (λ (z : List Local). places_before (front ++ y ∷ []) xs ++ place_at (newest_first z) x.name ∷ []) (append_assoc front (y ∷ []) xs))

module _ {Y : Type 0} where
  -- one more declaration
  pub kept_push : (items now : List Local) (before after : List (Option Place)) (places new : BTreeMap (String Y) Place) (x : Local) (old : Option Place)
      → ((n : List ℕ) → get_by_text new n ≡ update bytes_eq (get_by_text places) x.name (Some x.place) n) → old ≡ get_by_text places x.name
      → now ≡ items ++ x ∷ [] → after ≡ before ++ old ∷ [] → IsKept items before places → IsKept now after new
  kept_push items now before after places new x old updates was e f kept = record {
    found = λ n.
        updates n ∙ ap (λ (z : Option Place). cond (bytes_eq x.name n) (Some x.place) z) (kept.found n) ∙ place_updated items x n
        ∙ ap (λ (z : List Local). place_at (newest_first z) n) (sym e);
    undone =
        f ∙ ap (λ (z : List (Option Place)). z ++ old ∷ []) kept.undone ∙ ap (λ (o : Option Place). places_before [] items ++ o ∷ []) (was ∙ kept.found x.name)
        ∙ sym (before_push [] items x) ∙ ap (places_before []) (sym e);
  }

-- lists that end alike
last_is : (bs cs : List (Option Place)) (b c : Option Place) → bs ++ b ∷ [] ≡ cs ++ c ∷ [] → (bs ≡ cs) × (b ≡ c)
last_is [] [] b c e = (refl, cc)
last_is [] (y ∷ []) b c e = cc
last_is [] (y ∷ z ∷ cs) b c e = cc
last_is (x ∷ []) [] b c e = cc
last_is (x ∷ z ∷ bs) [] b c e = cc
last_is (x ∷ bs) (y ∷ cs) b c e =
    let rest : bs ++ b ∷ [] ≡ cs ++ c ∷ [] = cc in
    let h : x ≡ y = cc in
    let more = last_is bs cs b c rest in
    (rw (h, more.0) refl, more.1)

same_self : (n : List ℕ) → same_bytes n n ≡ true
same_self n = sym (same_is n n) ∙ bytes_same n
  where
    bytes_same : (m : List ℕ) → bytes_eq m m ≡ true
    bytes_same m = (bytes_decides m m).1 refl

taken : (items : List Local) (x : Local) (old : Option Place) (n : List ℕ) (b : Bool) → bytes_eq x.name n ≡ b → old ≡ place_at (newest_first items) x.name
    → cond b old (cond b (Some x.place) (place_at (newest_first items) n)) ≡ place_at (newest_first items) n
taken items x old n true e h = h ∙ ap (place_at (newest_first items)) ((bytes_decides x.name n).0 e)
taken items x old n false e h = refl

module _ {Y : Type 0} where
  -- the last declaration is visible
  pub kept_last : (items : List Local) (before : List (Option Place)) (places : BTreeMap (String Y) Place) (x : Local)
      → IsKept (items ++ x ∷ []) before places → IsSome (get_by_text places x.name)
  kept_last items before places x kept =
      let e : get_by_text places x.name ≡ Some x.place =
      kept.found x.name ∙ ap (λ (z : List Slot). place_at z x.name) (newest_push items x)
      ∙ ap (λ (b : Bool). option_map place_of (if b then Some (slot_of x) else slot_in (newest_first items) x.name)) (same_self x.name) in
      rw e refl

  -- the last declaration is taken away
  pub kept_pop : (items : List Local) (before : List (Option Place)) (places new : BTreeMap (String Y) Place) (x : Local) (old : Option Place)
      → IsKept (items ++ x ∷ []) (before ++ old ∷ []) places → ((n : List ℕ) → get_by_text new n ≡ update bytes_eq (get_by_text places) x.name old n) → IsKept items before new
  kept_pop items before places new x old kept updates =
      let two = last_is before (places_before [] items) old (place_at (newest_first items) x.name) (kept.undone ∙ before_push [] items x) in
      record {
        found = λ n.
            updates n ∙ ap (λ (z : Option Place). cond (bytes_eq x.name n) old z) (kept.found n ∙ sym (place_updated items x n))
            ∙ taken items x old n (bytes_eq x.name n) refl two.1;
        undone = two.0;
      }

-- ---- the newest are taken away, one after the other
pub fewer : (ls : List Slot) (count : ℕ) → count < length ls → drop (length (drop 1 ls) - count) (drop 1 ls) ≡ drop (length ls - count) ls
fewer [] count h = absurd (omega arith)
fewer (x ∷ xs) count h =
    let e : suc (length xs) - count ≡ suc (length xs - count) = omega arith in
    sym (ap (λ (k : ℕ). drop k (x ∷ xs)) e)

pub none_fewer : (ls : List Slot) (count : ℕ) → length ls ≤ count → drop (length ls - count) ls ≡ ls
none_fewer ls count h =
    let e : length ls - count ≡ 0 = omega arith in
    ap (λ (k : ℕ). drop k ls) e

-- one more local, with the next slot
pub scope_push : (items now : List Local) (slots new : List Ty) (sc : Scope) (n : List ℕ) (ty : Ty) (k : ℕ)
    → (let x : Local = record { name = n; place = record { ty = ty; slot = k } } in now ≡ items ++ x ∷ [])
    → new ≡ slots ++ ty ∷ [] → k ≡ length slots → scope_of items slots ≡ sc → scope_of now new ≡ with_local sc n ty
scope_push items now slots new sc n ty k e f g h =
    let x : Local = record { name = n; place = record { ty = ty; slot = k } } in
    ap (λ (z : List Local). scope_of z new) e
    ∙ ap (λ (z : List Ty). scope_of (items ++ x ∷ []) z) f
    ∙ ap (λ (z : List Slot). let s : Scope = record { locals = z; slots = slots ++ ty ∷ [] } in s) (newest_push items x)
    ∙ ap (λ (z : ℕ). let s : Scope = record { locals = record { name = n; ty = ty; slot = z } ∷ newest_first items; slots = slots ++ ty ∷ [] } in s) g
    ∙ ap (λ (s : Scope). with_local s n ty) h
