-- The entry that writes is the oldest one of its unit, and what it owes stands at its place.
use Rattle.std.proofs.Common.{◌≡◌, ℕ, zero, suc, ◌+◌, ◌-◌, ◌<◌, ◌≤◌, List, [], ◌∷◌, ◌++◌, length, take, drop, Option, Some, None, Bool, true, false, refl, sym, ap, ◌∙◌, subst, arith, inl, inr}
use Rattle.std.specs.Prelude.{◌&&◌, ◌||◌, if◌then◌else◌, ◌==◌, replicate, slice_get, slice_index_or, option_map}
use Rattle.std.proofs.lemmas.Bool.{cases_lt}
use Rattle.std.proofs.lemmas.Bool.Decides.{nat_tests}
use Rattle.std.proofs.lemmas.List.{length-append, length-drop}
use Rattle.ix_eval.specs.Tables.{table}
use Rattle.rv_asks.specs.declared.asks.Asks.{Asks}
use Rattle.rv_lawful.specs.Outstanding.{touches}
use Rattle.rv_unit.specs.declared.entry.Entry.{Entry}
use Rattle.rv_unit.specs.Entries.{last_time, is_finished, has_finished, writer, is_number, does_write, cons_unless, moved, stepped, entered, is_frozen}
use Rattle.rv_unit.specs.Timed.{IsBehind, IsTimed, CanEnter}
use Rattle.rv_unit.specs.UnitLaws.{TimedLaw, RoomLaw}
use Rattle.rv_unit.proofs.Cycling.{writes_at}
use Rattle.rv_unit.proofs.Finishing.{writer_finished, same_test}
use Rattle.rv_holds.specs.Holds.{least_from, numbered, register_at, register_count}
use Rattle.rv_holds.specs.Tokens.{or_else}
use Rattle.rv_engine.specs.declared.owing.Owed.{Owed}
use Rattle.rv_engine.specs.Owing.{Outstanding, holder, holder_for, board_of, paying_among, unpaid_among, unpaid, oldest_serial, unit_entered, owed_by_entering, entries_after, owed_after, outstanding_after}
use Rattle.rv_engine.specs.Places.{oldest_place, without_place, IsPayingPlace, AreKept}

is_eq : (a b : ℕ) → (a == b) ≡ true → a ≡ b
is_eq a b e = grind (arith, nat_tests)

not_both : (a b : Bool) → b ≡ false → (a && b) ≡ false
not_both true b e = e
not_both false b e = refl

-- behind an entry at its last time no older one stands in its unit
alone : (stages : ℕ) (lasts : List ℕ) (e : Entry) (older : List Entry) → e.time ≡ last_time lasts e.unit → IsBehind e older → IsTimed stages lasts older → (oldest_place e.unit older ≡ None) × (has_finished lasts e.unit older ≡ false)
alone stages lasts e [] t b h = (refl, refl)
alone stages lasts e (p ∷ older) t b h = by_case (p.unit == e.unit) refl (alone stages lasts e older t b.1 h.2) where
  by_case : (c : Bool) → (p.unit == e.unit) ≡ c → (oldest_place e.unit older ≡ None) × (has_finished lasts e.unit older ≡ false)
      → (or_else (option_map (λ n. suc n) (oldest_place e.unit older)) (if c then Some 0 else None) ≡ None) × (((is_finished lasts p && c) || has_finished lasts e.unit older) ≡ false)
  by_case true q ih =
      let same = is_eq p.unit e.unit q in
      let lt = b.0 same in
      let last : last_time lasts p.unit ≡ last_time lasts e.unit = ap (λ u. last_time lasts u) same in
      let most = h.0.last in
      absurd (omega (arith, lt, last, most, t))
  by_case false q ih = (
    ap (λ o. or_else (option_map (λ n. suc n) o) None) ih.0,
    ap (λ b. b || has_finished lasts e.unit older) (not_both (is_finished lasts p) false refl) ∙ ih.1,
  )

-- of some entries, among all, the one that writes and what it owes
abbrev IsPaid : List ℕ → List Entry → List Entry → List Owed → Option ℕ → Type 0
IsPaid lasts all l owed None = ⊥
IsPaid lasts all l owed (Some n) = (n < length owed) × (slice_get owed n ≡ paying_among lasts all l owed) × (without_place (Some n) owed ≡ unpaid_among lasts all l owed)

none_paid : (lasts : List ℕ) (all : List Entry) (w : ℕ) → writer lasts all ≡ Some w → (l : List Entry) (owed : List Owed) → length owed ≡ length l → has_finished lasts w l ≡ false → (paying_among lasts all l owed ≡ None) × (owed ≡ unpaid_among lasts all l owed)
none_paid lasts all w h [] [] e f = (refl, refl)
none_paid lasts all w h [] (o ∷ owed) e f = absurd (omega (arith, e))
none_paid lasts all w h (p ∷ l) [] e f = absurd (omega (arith, e))
none_paid lasts all w h (p ∷ l) (o ∷ owed) e f = by_case (is_finished lasts p && (p.unit == w)) refl f (λ g. none_paid lasts all w h l owed (omega (arith, e)) g) where
  by_case : (b : Bool) → (is_finished lasts p && (p.unit == w)) ≡ b → (b || has_finished lasts w l) ≡ false → (has_finished lasts w l ≡ false → (paying_among lasts all l owed ≡ None) × (owed ≡ unpaid_among lasts all l owed))
      → (paying_among lasts all (p ∷ l) (o ∷ owed) ≡ None) × (o ∷ owed ≡ unpaid_among lasts all (p ∷ l) (o ∷ owed))
  by_case true q g rest = cc
  by_case false q g rest =
      let writes : does_write lasts all p ≡ false = writes_at lasts all w p h ∙ sym (same_test lasts w p) ∙ q in
      let ih = rest g in (
        ap (λ b. if b then Some o else paying_among lasts all l owed) writes ∙ ih.0,
        ap (λ os. o ∷ os) ih.1 ∙ sym (ap (λ b. if b then unpaid_among lasts all l owed else o ∷ unpaid_among lasts all l owed) writes),
      )

some_paid : (stages : ℕ) (lasts : List ℕ) (all : List Entry) (w : ℕ) → writer lasts all ≡ Some w → (l : List Entry) (owed : List Owed) → IsTimed stages lasts l → length owed ≡ length l → has_finished lasts w l ≡ true → IsPaid lasts all l owed (oldest_place w l)
some_paid stages lasts all w h [] owed t e f = cc
some_paid stages lasts all w h (p ∷ l) [] t e f = absurd (omega (arith, e))
some_paid stages lasts all w h (p ∷ l) (o ∷ owed) t e f = by_case (is_finished lasts p && (p.unit == w)) refl f (λ g. some_paid stages lasts all w h l owed t.2 (omega (arith, e)) g) where
  both : (a b : Bool) → (a && b) ≡ true → (a ≡ true) × (b ≡ true)
  both true true q = (refl, refl)
  both true false q = cc
  both false b q = cc

  by_case : (b : Bool) → (is_finished lasts p && (p.unit == w)) ≡ b → (b || has_finished lasts w l) ≡ true → (has_finished lasts w l ≡ true → IsPaid lasts all l owed (oldest_place w l)) → IsPaid lasts all (p ∷ l) (o ∷ owed) (oldest_place w (p ∷ l))
  by_case true q g rest' =
      let parts = both (is_finished lasts p) (p.unit == w) q in
      let unit = is_eq p.unit w parts.1 in
      let writes : does_write lasts all p ≡ true = writes_at lasts all w p h ∙ sym (same_test lasts w p) ∙ q in
      let none = alone stages lasts p l (is_eq p.time (last_time lasts p.unit) parts.0) t.1 t.2 in
      let place : oldest_place w (p ∷ l) ≡ Some 0 =
      ap (λ v. or_else (option_map (λ n. suc n) (oldest_place v l)) (if p.unit == w then Some 0 else None)) (sym unit)
      ∙ ap (λ o. or_else (option_map (λ n. suc n) o) (if p.unit == w then Some 0 else None)) none.0
      ∙ ap (λ (b : Bool). if b then Some 0 else None) parts.1 in
      let rest = none_paid lasts all w h l owed (omega (arith, e)) (ap (λ v. has_finished lasts v l) (sym unit) ∙ none.1) in
      subst (λ o'. IsPaid lasts all (p ∷ l) (o ∷ owed) o') (sym place) (
        omega arith,
        sym (ap (λ b. if b then Some o else paying_among lasts all l owed) writes),
        rest.1 ∙ sym (ap (λ b. if b then unpaid_among lasts all l owed else o ∷ unpaid_among lasts all l owed) writes),
      )
  by_case false q g rest' =
      by_place (oldest_place w l) refl (rest' g) where
        by_place : (o' : Option ℕ) → oldest_place w l ≡ o' → IsPaid lasts all l owed o' → IsPaid lasts all (p ∷ l) (o ∷ owed) (oldest_place w (p ∷ l))
        by_place None r x = absurd x
        by_place (Some n) r x =
            let place : oldest_place w (p ∷ l) ≡ Some (suc n) = ap (λ o'. or_else (option_map (λ n. suc n) o') (if p.unit == w then Some 0 else None)) r in
            let below = x.0 in
            let writes' : does_write lasts all p ≡ false = writes_at lasts all w p h ∙ sym (same_test lasts w p) ∙ q in
            subst (λ o'. IsPaid lasts all (p ∷ l) (o ∷ owed) o') (sym place) (
              omega (arith, below),
              x.1 ∙ sym (ap (λ b. if b then Some o else paying_among lasts all l owed) writes'),
              ap (λ os. o ∷ os) x.2 ∙ sym (ap (λ b. if b then unpaid_among lasts all l owed else o ∷ unpaid_among lasts all l owed) writes'),
            )

-- the oldest entry of the unit that writes is the one that does
pub paying_place : (stages : ℕ) (lasts : List ℕ) (all : List Entry) (w : ℕ) → IsTimed stages lasts all → writer lasts all ≡ Some w → IsPayingPlace lasts all (oldest_place w all)
paying_place stages lasts all w t h = by_place (oldest_place w all) refl where
  by_place : (o : Option ℕ) → oldest_place w all ≡ o → IsPayingPlace lasts all o
  by_place None q = λ owed e. absurd (subst (λ o. IsPaid lasts all all owed o) q (some_paid stages lasts all w h all owed t e (writer_finished lasts w all h)))
  by_place (Some n) q = λ owed e.
      let x = subst (λ o. IsPaid lasts all all owed o) q (some_paid stages lasts all w h all owed t e (writer_finished lasts w all h)) in
      record { inside = x.0; paid = x.1; others = x.2 }

-- where no unit writes, nothing is written
no_writer : (lasts : List ℕ) (all : List Entry) → writer lasts all ≡ None → (e : Entry) → does_write lasts all e ≡ false
no_writer lasts all h e = not_both (is_finished lasts e) (is_number (writer lasts all) e.unit) (ap (λ o. is_number o e.unit) h)

pub unpaid_none : (lasts : List ℕ) (all : List Entry) → writer lasts all ≡ None → (l : List Entry) (owed : List Owed) → length owed ≡ length l → (paying_among lasts all l owed ≡ None) × (owed ≡ unpaid_among lasts all l owed)
unpaid_none lasts all h [] [] e = (refl, refl)
unpaid_none lasts all h [] (o ∷ owed) e = absurd (omega (arith, e))
unpaid_none lasts all h (p ∷ l) [] e = absurd (omega (arith, e))
unpaid_none lasts all h (p ∷ l) (o ∷ owed) e =
    let writes = no_writer lasts all h p in
    let ih = unpaid_none lasts all h l owed (omega (arith, e)) in (
      ap (λ b. if b then Some o else paying_among lasts all l owed) writes ∙ ih.0,
      ap (λ os. o ∷ os) ih.1 ∙ sym (ap (λ b. if b then unpaid_among lasts all l owed else o ∷ unpaid_among lasts all l owed) writes),
    )

pub no_place : (lasts : List ℕ) (all : List Entry) → writer lasts all ≡ None → IsPayingPlace lasts all None
no_place lasts all h = λ owed e. let x = unpaid_none lasts all h all owed e in record { paid = x.0; others = x.1 }

-- ---- as many are owed as stand in units
steps_length : (lasts : List ℕ) (all l : List Entry) (owed : List Owed) → length owed ≡ length l → length (unpaid_among lasts all l owed) ≡ length (stepped lasts all l)
steps_length lasts all [] [] e = refl
steps_length lasts all [] (o ∷ owed) e = absurd (omega (arith, e))
steps_length lasts all (p ∷ l) [] e = absurd (omega (arith, e))
steps_length lasts all (p ∷ l) (o ∷ owed) e = by_case (does_write lasts all p) (steps_length lasts all l owed (omega (arith, e))) where
  by_case : (b : Bool) → length (unpaid_among lasts all l owed) ≡ length (stepped lasts all l) → length (if b then unpaid_among lasts all l owed else o ∷ unpaid_among lasts all l owed) ≡ length (cons_unless b (moved lasts all p) (stepped lasts all l))
  by_case true ih = ih
  by_case false ih = ap suc ih

enters_length : (stages : ℕ) (enter : Option (ℕ × Owed)) → length (owed_by_entering enter) ≡ length (entered stages (unit_entered enter))
enters_length stages None = refl
enters_length stages (Some enter) = refl

pub after_length : (o : Outstanding) (enter : Option (ℕ × Owed)) → length o.owed ≡ length o.entries → length (owed_after o enter) ≡ length (entries_after o enter)
after_length o enter e =
    let a = length-append (owed_by_entering enter) (unpaid o) in
    let b = length-append (entered o.stages (unit_entered enter)) (stepped o.lasts o.entries o.entries) in
    let c = steps_length o.lasts o.entries o.entries o.owed e in
    let d = enters_length o.stages enter in
    omega (arith, a, b, c, d)

-- what is kept a row later
pub after_kept : TimedLaw → (o : Outstanding) (enter : Option (ℕ × Owed)) (places : ℕ) → AreKept o places → CanEnter o.lasts o.entries (unit_entered enter) → AreKept (outstanding_after o enter) places
after_kept timed o enter places h enters =
    record {
      units = h.units;
      timed = timed o.stages o.lasts o.entries (unit_entered enter) h.units h.timed enters;
      each = after_length o enter h.each;
      capacity = h.capacity;
    }

-- and there is room for it
pub after_room : TimedLaw → RoomLaw → (o : Outstanding) (enter : Option (ℕ × Owed)) (places : ℕ) → AreKept o places → CanEnter o.lasts o.entries (unit_entered enter) → length (owed_after o enter) ≤ places
after_room timed room_law o enter places h enters =
    let k = after_kept timed o enter places h enters in
    let few = room_law o.stages o.lasts (entries_after o enter) h.units k.timed in
    let each = k.each in
    let capacity = h.capacity in
    omega (arith, few, each, capacity)

-- ---- the oldest one is the last

oldest_append : (a : List Owed) (o : Owed) (b : List Owed) → oldest_serial (a ++ o ∷ b) ≡ oldest_serial (o ∷ b)
oldest_append [] o b = refl
oldest_append (p ∷ a) o b = ap (λ x. or_else x (Some p.serial)) (oldest_append a o b) ∙ some_stays (oldest_serial b) o.serial p.serial where
  some_stays : (x : Option ℕ) (s t : ℕ) → or_else (or_else x (Some s)) (Some t) ≡ or_else x (Some s)
  some_stays None s t = refl
  some_stays (Some j) s t = refl

oldest_dropped : (l : List Owed) (n : ℕ) → n < length l → oldest_serial (drop n l) ≡ oldest_serial l
oldest_dropped [] n lt = absurd (omega (arith, lt))
oldest_dropped (p ∷ l) zero lt = refl
oldest_dropped (p ∷ []) (suc n) lt = absurd (omega (arith, lt))
oldest_dropped (p ∷ q ∷ l) (suc n) lt = oldest_dropped (q ∷ l) n (omega (arith, lt)) ∙ more (oldest_serial l) where
  more : (x : Option ℕ) → or_else x (Some q.serial) ≡ or_else (or_else x (Some q.serial)) (Some p.serial)
  more None = refl
  more (Some j) = refl

-- without one that is not the last
pub oldest_inner : (l : List Owed) (n : ℕ) → suc n < length l → oldest_serial l ≡ oldest_serial (take n l ++ drop (suc n) l)
oldest_inner l n lt = sym (oldest_dropped l (suc n) lt) ∙ by_rest (drop (suc n) l) (length-drop (suc n) l) where
  by_rest : (r : List Owed) → length r ≡ length l - suc n → oldest_serial r ≡ oldest_serial (take n l ++ r)
  by_rest [] e = absurd (omega (arith, e, lt))
  by_rest (o ∷ r) e = sym (oldest_append (take n l) o r)

-- without the last
pub oldest_front : (l : List Owed) (n : ℕ) → n + 1 ≡ length l → take n l ++ drop (suc n) l ≡ take n l
oldest_front l n e = ap (λ r. take n l ++ r) (none_past l (suc n) (omega (arith, e))) ∙ append_nothing (take n l) where
  none_past : (l : List Owed) (n : ℕ) → length l ≤ n → drop n l ≡ []
  none_past [] zero le = refl
  none_past [] (suc n) le = refl
  none_past (o ∷ l) zero le = absurd (omega (arith, le))
  none_past (o ∷ l) (suc n) le = none_past l n (omega (arith, le))

  append_nothing : (l : List Owed) → l ++ [] ≡ l
  append_nothing [] = refl
  append_nothing (o ∷ l) = ap (λ r. o ∷ r) (append_nothing l)

-- the last, as the code finds it
pub some_there : (l : List Owed) → false ≡ (length l == 0) → 0 < length l
some_there [] e = cc
some_there (o ∷ l) e = omega arith

pub oldest_at : (l : List Owed) (n : ℕ) (d : Owed) → n ≡ length l - 1 → 0 < length l → Some (slice_index_or l n d).serial ≡ oldest_serial l
oldest_at [] n d e lt = absurd (omega (arith, lt))
oldest_at (p ∷ []) zero d e lt = refl
oldest_at (p ∷ []) (suc n) d e lt = absurd (omega (arith, e))
oldest_at (p ∷ q ∷ l) zero d e lt = absurd (omega (arith, e))
oldest_at (p ∷ q ∷ l) (suc n) d e lt = oldest_at (q ∷ l) n d (omega (arith, e)) (omega arith) ∙ more (oldest_serial l) where
  more : (x : Option ℕ) → or_else x (Some q.serial) ≡ or_else (or_else x (Some q.serial)) (Some p.serial)
  more None = refl
  more (Some j) = refl

-- one that is not the last
pub below_last : (a b : ℕ) → a < b → (a + 1 ≡ b → ⊥) → suc a < b
below_last a b lt ne = elim (cases_lt (suc a) b) [ inl less ↦ less | inr le ↦ absurd (ne (omega (arith, lt, le))) ]

-- what is left without what is written
pub place_gone : (lasts : List ℕ) (all : List Entry) (owed : List Owed) (place : Option ℕ) → IsPayingPlace lasts all place → length owed ≡ length all → without_place place owed ≡ unpaid_among lasts all all owed
place_gone lasts all owed None h e = (h owed e).others
place_gone lasts all owed (Some n) h e = (h owed e).others

-- the same parts are kept the same
pub kept_as : (s s' : ℕ) (l l' : List ℕ) (e e' : List Entry) (o o' : List Owed) (p p' : ℕ) → s ≡ s' → l ≡ l' → e ≡ e' → o ≡ o' → p ≡ p' → AreKept (record { stages = s'; lasts = l'; entries = e'; owed = o' }) p'
    → AreKept (record { stages = s; lasts = l; entries = e; owed = o }) p
kept_as s s' l l' e e' o o' p p' hs hl he ho hp h =
    subst (λ n. AreKept (record { stages = s; lasts = l; entries = e; owed = o }) n) (sym hp)
    (subst (λ x. AreKept (record { stages = s; lasts = l; entries = e; owed = x }) p') (sym ho)
    (subst (λ x. AreKept (record { stages = s; lasts = l; entries = x; owed = o' }) p') (sym he)
    (subst (λ x. AreKept (record { stages = s; lasts = x; entries = e'; owed = o' }) p') (sym hl)
    (subst (λ x. AreKept (record { stages = x; lasts = l'; entries = e'; owed = o' }) p') (sym hs) h))))

-- Where nothing stands in units

none_for : (a : Asks) (n : ℕ) → holder_for [] a n ≡ None
none_for a n = either (touches a (register_at n)) where
  either : (b : Bool) → (if b then holder n [] else None) ≡ None
  either true = refl
  either false = refl

none_held : (a : Asks) (n count : ℕ) → least_from (holder_for [] a) n count ≡ None
none_held a n zero = refl
none_held a n (suc count) = ap (λ o. or_else (numbered n o) (least_from (holder_for [] a) (suc n) count)) (none_for a n) ∙ none_held a (suc n) count

-- where nothing is owed no register is waited for
pub board_none : (owed : List Owed) (a : Asks) → length owed ≡ 0 → board_of owed a ≡ None
board_none [] a e = none_held a 0 register_count
board_none (o ∷ older) a e = absurd (omega (arith, e))

-- where nothing stands in units none is frozen
pub idle_frozen : (lasts : List ℕ) (entries : List Entry) → length entries ≡ 0 → replicate 64 false ≡ table (is_frozen lasts entries) 64
idle_frozen lasts [] e = refl
idle_frozen lasts (one ∷ entries) e = absurd (omega (arith, e))
