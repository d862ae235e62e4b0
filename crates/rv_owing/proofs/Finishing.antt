-- What stands at the last times of units: the oldest entry of each, and the lowest unit that shows a serial there.
use Rattle.std.proofs.Common.{◌≡◌, ◌∙◌, refl, sym, ap, ℕ, zero, suc, ◌+◌, ◌<◌, ◌≤◌, List, [], ◌∷◌, length, Option, Some, None, Bool, true, false, arith}
use Rattle.std.specs.Prelude.{◌&&◌, ◌||◌, not, ◌==◌, if◌then◌else◌, slice_get, is_some}
use Rattle.std.specs.Option.{option_or}
use Rattle.std.proofs.lemmas.Bool.Decides.{nat_tests}
use Rattle.ix_plan.specs.Units.{Slots, finished, with_unit, unit_written, has_some, is_of, frozen_with}
use Rattle.rv_unit.specs.declared.entry.Entry.{Entry}
use Rattle.rv_unit.specs.Entries.{last_time, has_finished, writer, is_number, is_frozen, unit_and_serial}
use Rattle.rv_unit.specs.Slots.{serial_at, units_from, units_of, unit_named}
use Rattle.rv_unit.specs.Timed.{AreUnits, IsBehind, IsTimed}
use Rattle.rv_unit.proofs.Finishing.{writer_finished, finished_below, same_test, has_serial_at, nothing_written, written_serial}
use Rattle.rv_unit.proofs.Showing.{finished_at, written_law}
use Rattle.rv_unit.proofs.Moving.{first_time}
use Rattle.rv_lawful.specs.Outstanding.{is_serial}
use Rattle.rv_lawful.specs.LawfulTrace.{serial_in}
use Rattle.rv_rows.specs.Kinds.{unit_from, unit_marked}
use Rattle.rv_owing.specs.Kept.{oldest_in, IsLowest}

-- ---- the serial at the last time of a unit is that of its oldest entry

same_number : (a b : ℕ) → (a == b) ≡ true → a ≡ b
same_number a b e = grind (arith, nat_tests)

or_none : {A : Type 0} (o : Option A) → option_or o None ≡ o
or_none None = refl
or_none (Some x) = refl

none_older : (stages : ℕ) (lasts : List ℕ) (u : ℕ) (e : Entry) (rest : List Entry) → IsTimed stages lasts rest → IsBehind e rest → e.unit ≡ u → e.time ≡ last_time lasts u → oldest_in u rest ≡ None
none_older stages lasts u e [] t b at last = refl
none_older stages lasts u e (p ∷ rest) t b at last = by_case (p.unit == u) refl (none_older stages lasts u e rest t.2 b.1 at last) where
  by_case : (c : Bool) → (p.unit == u) ≡ c → oldest_in u rest ≡ None → option_or (oldest_in u rest) (if c then Some p.serial else None) ≡ None
  by_case false q h = or_none (oldest_in u rest) ∙ h
  by_case true q h =
      let here = same_number p.unit u q in
      let later = b.0 (here ∙ sym at) in
      let most = t.0.last in
      let same = ap (λ v. last_time lasts v) here in
      absurd (omega (arith, later, most, same, last))

pub oldest_is : (stages : ℕ) (lasts : List ℕ) (u : ℕ) (entries : List Entry) → IsTimed stages lasts entries → has_finished lasts u entries ≡ true → oldest_in u entries ≡ serial_at u (last_time lasts u) entries
oldest_is stages lasts u [] t h = cc
oldest_is stages lasts u (e ∷ rest) t h =
    by_case (e.unit == u) (e.time == last_time lasts u) refl refl (ap (λ b. b || has_finished lasts u rest) (sym (same_test lasts u e)) ∙ h) (λ q. oldest_is stages lasts u rest t.2 q) where
      kept : (o : Option ℕ) (x : Option ℕ) → has_some o ≡ true → option_or o x ≡ o
      kept None x g = cc
      kept (Some s) x g = refl

      some_left : has_finished lasts u rest ≡ true → oldest_in u rest ≡ serial_at u (last_time lasts u) rest → has_some (oldest_in u rest) ≡ true
      some_left q same = ap has_some same ∙ has_serial_at lasts u rest ∙ q

      by_case : (a b : Bool) → (e.unit == u) ≡ a → (e.time == last_time lasts u) ≡ b → ((a && b) || has_finished lasts u rest) ≡ true
          → (has_finished lasts u rest ≡ true → oldest_in u rest ≡ serial_at u (last_time lasts u) rest)
          → option_or (oldest_in u rest) (if a then Some e.serial else None) ≡ (if a && b then Some e.serial else serial_at u (last_time lasts u) rest)
      by_case false b p q g again = or_none (oldest_in u rest) ∙ again g
      by_case true false p q g again = kept (oldest_in u rest) (Some e.serial) (some_left g (again g)) ∙ again g
      by_case true true p q g again =
          ap (λ o. option_or o (Some e.serial)) (none_older stages lasts u e rest t.2 t.1 (same_number e.unit u p) (same_number e.time (last_time lasts u) q))

no_serial : (o : Option ℕ) → has_some o ≡ false → o ≡ None
no_serial None e = refl
no_serial (Some s) e = cc

pub none_at : (lasts : List ℕ) (u : ℕ) (entries : List Entry) → has_finished lasts u entries ≡ false → serial_at u (last_time lasts u) entries ≡ None
none_at lasts u entries h = no_serial (serial_at u (last_time lasts u) entries) (has_serial_at lasts u entries ∙ h)

-- past the units there is none
pub none_past : (stages : ℕ) (lasts : List ℕ) (u : ℕ) (entries : List Entry) → IsTimed stages lasts entries → length lasts ≤ u → serial_at u (last_time lasts u) entries ≡ None
none_past stages lasts u entries t le = by_case (has_finished lasts u entries) refl where
  by_case : (b : Bool) → has_finished lasts u entries ≡ b → serial_at u (last_time lasts u) entries ≡ None
  by_case false q = none_at lasts u entries q
  by_case true q = let lt = finished_below stages lasts u entries t q in absurd (omega (arith, lt, le))

-- the unit that writes has one
pub writer_oldest : (stages : ℕ) (lasts : List ℕ) (u : ℕ) (entries : List Entry) → IsTimed stages lasts entries → writer lasts entries ≡ Some u → oldest_in u entries ≡ serial_at u (last_time lasts u) entries
writer_oldest stages lasts u entries t w = oldest_is stages lasts u entries t (writer_finished lasts u entries w)

named : (o : Option ℕ) (u : ℕ) → is_number o u ≡ true → o ≡ Some u
named None u e = cc
named (Some w) u e = ap (λ v. Some v) (same_number w u e)

pub named_oldest : (stages : ℕ) (lasts : List ℕ) (u : ℕ) (entries : List Entry) → IsTimed stages lasts entries → is_number (writer lasts entries) u ≡ true → oldest_in u entries ≡ serial_at u (last_time lasts u) entries
named_oldest stages lasts u entries t n = writer_oldest stages lasts u entries t (named (writer lasts entries) u n)

first_part : (a b : Bool) → (a && b) ≡ true → a ≡ true
first_part true b e = refl
first_part false b e = cc

-- and one that is frozen
pub frozen_oldest : (stages : ℕ) (lasts : List ℕ) (u : ℕ) (entries : List Entry) → IsTimed stages lasts entries → is_frozen lasts entries u ≡ true → oldest_in u entries ≡ serial_at u (last_time lasts u) entries
frozen_oldest stages lasts u entries t f = oldest_is stages lasts u entries t (first_part (has_finished lasts u entries) (not (is_number (writer lasts entries) u)) f)

-- one that is neither has none
pub neither_none : (lasts : List ℕ) (u : ℕ) (entries : List Entry) → is_number (writer lasts entries) u ≡ false → is_frozen lasts entries u ≡ false → serial_at u (last_time lasts u) entries ≡ None
neither_none lasts u entries n f = none_at lasts u entries (by_case (has_finished lasts u entries) (is_number (writer lasts entries) u) n f) where
  by_case : (b w : Bool) → w ≡ false → (b && not w) ≡ false → b ≡ false
  by_case false w q g = refl
  by_case true false q g = g
  by_case true true q g = q

-- ---- the serial that is written

pub granted_none : (stages : ℕ) (lasts : List ℕ) (entries : List Entry) → AreUnits stages lasts → IsTimed stages lasts entries → writer lasts entries ≡ None → serial_in (unit_written (units_of stages lasts entries)) ≡ None
granted_none stages lasts entries can t w = ap serial_in (written_law stages lasts entries can t ∙ ap unit_and_serial (nothing_written lasts entries entries w))

with_serial : (u : ℕ) (o : Option ℕ) → serial_in (with_unit u o None) ≡ o
with_serial u None = refl
with_serial u (Some s) = refl

pub granted_some : (stages : ℕ) (lasts : List ℕ) (entries : List Entry) (u : ℕ) → AreUnits stages lasts → IsTimed stages lasts entries → writer lasts entries ≡ Some u
    → serial_in (unit_written (units_of stages lasts entries)) ≡ serial_at u (last_time lasts u) entries
granted_some stages lasts entries u can t w =
    ap serial_in (written_law stages lasts entries can t ∙ written_serial lasts entries u entries w)
    ∙ with_serial u (serial_at u (last_time lasts u) entries)

-- ---- the lowest unit that shows a serial

-- units, the first of which has the number u, show these serials at their last times
abbrev pub Show : (ℕ → Option ℕ) → ℕ → List Slots → Type 0
Show shows u [] = Unit {0}
Show shows u (unit ∷ units) = (finished unit ≡ shows u) × Show shows (u + 1) units

show_from : (stages : ℕ) (lasts : List ℕ) (entries : List Entry) (u : ℕ) (ls : List ℕ) → ((m : ℕ) → m < length ls → stages ≤ last_time ls m) → ((m : ℕ) → last_time ls m ≡ last_time lasts (u + m))
    → Show (λ v. serial_at v (last_time lasts v) entries) u (units_from u stages ls entries)
show_from stages lasts entries u [] first same = tt
show_from stages lasts entries u (last ∷ ls) first same =
    let zero_more : u + 0 ≡ u = omega arith in (
      finished_at stages u last entries (first 0 (omega arith)) ∙ ap (λ t. serial_at u t entries) (same 0 ∙ ap (λ v. last_time lasts v) zero_more),
      show_from stages lasts entries (u + 1) ls (λ m lt. first (suc m) (omega (arith, lt))) (λ m. same (suc m) ∙ ap (λ v. last_time lasts v) (more m)),
    ) where
      more : (m : ℕ) → u + suc m ≡ u + 1 + m
      more m = omega arith

pub shown : (stages : ℕ) (lasts : List ℕ) (entries : List Entry) → AreUnits stages lasts → Show (λ v. serial_at v (last_time lasts v) entries) 0 (units_of stages lasts entries)
shown stages lasts entries can = show_from stages lasts entries 0 lasts (λ m lt. first_time stages lasts m can.first lt) (λ m. ap (λ v. last_time lasts v) (none m)) where
  none : (m : ℕ) → m ≡ 0 + m
  none m = omega arith

none_shown : (shows : ℕ → Option ℕ) (s u : ℕ) (units : List Slots) → Show shows u units → ((v : ℕ) → u ≤ v → v < u + length units → is_serial (shows v) s ≡ false) → unit_from u units s ≡ None
none_shown shows s u [] h n = refl
none_shown shows s u (unit ∷ units) h n =
    ap (λ b. if b then Some (u, s) else unit_from (u + 1) units s) (ap (λ o. is_serial o s) h.0 ∙ n u (omega arith) (omega arith))
    ∙ none_shown shows s (u + 1) units h.1 (λ v le lt. n v (omega (arith, le)) (omega (arith, lt)))

one_shown : (shows : ℕ → Option ℕ) (s w u : ℕ) (units : List Slots) → Show shows u units → u ≤ w → w < u + length units → is_serial (shows w) s ≡ true → ((v : ℕ) → v < w → is_serial (shows v) s ≡ false)
    → unit_from u units s ≡ Some (w, s)
one_shown shows s w u [] h le lt is n = absurd (omega (arith, le, lt))
one_shown shows s w u (unit ∷ units) h le lt is n = by_case (u == w) refl (λ le'. one_shown shows s w (u + 1) units h.1 le' (omega (arith, lt)) is n) where
  by_case : (b : Bool) → (u == w) ≡ b → (u + 1 ≤ w → unit_from (u + 1) units s ≡ Some (w, s)) → (if is_serial (finished unit) s then Some (u, s) else unit_from (u + 1) units s) ≡ Some (w, s)
  by_case true q rest =
      let same = same_number u w q in
      ap (λ b. if b then Some (u, s) else unit_from (u + 1) units s) (ap (λ o. is_serial o s) (h.0 ∙ ap shows same) ∙ is)
      ∙ ap (λ v. Some (v, s)) same
  by_case false q rest =
      let lower : u < w = below u w q le in
      ap (λ b. if b then Some (u, s) else unit_from (u + 1) units s) (ap (λ o. is_serial o s) h.0 ∙ n u lower)
      ∙ rest (omega (arith, lower)) where
        below : (a b : ℕ) → (a == b) ≡ false → a ≤ b → a < b
        below a b e l = grind (arith, nat_tests)

serial_some : (o : Option ℕ) (s : ℕ) → is_serial o s ≡ true → has_some o ≡ true
serial_some None s e = cc
serial_some (Some t) s e = refl

units_long : (u stages : ℕ) (lasts : List ℕ) (entries : List Entry) → length (units_from u stages lasts entries) ≡ length lasts
units_long u stages [] entries = refl
units_long u stages (last ∷ lasts) entries = ap suc (units_long (u + 1) stages lasts entries)

-- the unit that is marked is the lowest one that shows the serial
pub marked_is : (stages : ℕ) (lasts : List ℕ) (entries : List Entry) (s : ℕ) (r : Option ℕ) → AreUnits stages lasts → IsTimed stages lasts entries → IsLowest (λ u. serial_at u (last_time lasts u) entries) s r
    → unit_named (unit_marked (units_of stages lasts entries) (Some s)) ≡ r
marked_is stages lasts entries s None can t h =
    let few = can.few in
    let long = units_long 0 stages lasts entries in
    ap unit_named (none_shown (λ u. serial_at u (last_time lasts u) entries) s 0 (units_of stages lasts entries) (shown stages lasts entries can) (λ v le lt. h v (omega (arith, lt, long, few))))
marked_is stages lasts entries s (Some w) can t h =
    let there : has_finished lasts w entries ≡ true = sym (has_serial_at lasts w entries) ∙ serial_some (serial_at w (last_time lasts w) entries) s h.0 in
    let below = finished_below stages lasts w entries t there in
    let long = units_long 0 stages lasts entries in
    ap unit_named (one_shown (λ u. serial_at u (last_time lasts u) entries) s w 0 (units_of stages lasts entries) (shown stages lasts entries can) (omega arith) (omega (arith, below, long)) h.0 h.1)

-- ---- the unit that is frozen

get_shown : (shows : ℕ → Option ℕ) (u n : ℕ) (units : List Slots) (slots : Slots) → Show shows u units → slice_get units n ≡ Some slots → finished slots ≡ shows (u + n)
get_shown shows u n [] slots h e = cc
get_shown shows u zero (unit ∷ units) slots h e = let same : unit ≡ slots = cc in let none : u ≡ u + 0 = omega arith in ap finished (sym same) ∙ h.0 ∙ ap shows none
get_shown shows u (suc n) (unit ∷ units) slots h e = get_shown shows (u + 1) n units slots h.1 e ∙ ap shows (more n) where
  more : (m : ℕ) → u + 1 + m ≡ u + suc m
  more m = omega arith

pub last_shown : (stages : ℕ) (lasts : List ℕ) (entries : List Entry) (u : ℕ) (slots : Slots) → AreUnits stages lasts → slice_get (units_of stages lasts entries) u ≡ Some slots → finished slots ≡ serial_at u (last_time lasts u) entries
last_shown stages lasts entries u slots can e =
    let none : 0 + u ≡ u = omega arith in
    get_shown (λ v. serial_at v (last_time lasts v) entries) 0 u (units_of stages lasts entries) slots (shown stages lasts entries can) e ∙ ap (λ v. serial_at v (last_time lasts v) entries) none

is_named : (u : ℕ) (o : Option (ℕ × ℕ)) → is_of u o ≡ is_number (unit_named o) u
is_named u None = refl
is_named u (Some entry) = refl

-- by what stands at its last time, and which unit is marked
pub frozen_by : (stages : ℕ) (lasts : List ℕ) (entries : List Entry) (u : ℕ) (slots : Slots) (marked : Option (ℕ × ℕ)) → AreUnits stages lasts → slice_get (units_of stages lasts entries) u ≡ Some slots
    → frozen_with u slots marked ≡ (if is_number (unit_named marked) u then false else has_some (serial_at u (last_time lasts u) entries))
frozen_by stages lasts entries u slots marked can e =
    ap (λ b. if b then false else has_some (finished slots)) (is_named u marked)
    ∙ ap (λ o. if is_number (unit_named marked) u then false else has_some o) (last_shown stages lasts entries u slots can e)

-- what is kept shows whether a unit is frozen
pub frozen_is : (stages : ℕ) (lasts : List ℕ) (entries : List Entry) (u : ℕ) (slots : Slots) (all : List Slots) (marked : Option (ℕ × ℕ)) (b : Bool) → AreUnits stages lasts → units_of stages lasts entries ≡ all
    → slice_get all u ≡ Some slots → b ≡ (if is_number (unit_named marked) u then false else has_some (serial_at u (last_time lasts u) entries)) → b ≡ frozen_with u slots marked
frozen_is stages lasts entries u slots all marked b can same at e = e ∙ sym (frozen_by stages lasts entries u slots marked can (ap (λ l. slice_get l u) same ∙ at))

-- where nothing stands at its last time
pub frozen_none : (b : Bool) (o : Option ℕ) → is_some o ≡ false → false ≡ (if b then false else has_some o)
frozen_none true o e = refl
frozen_none false None e = refl
frozen_none false (Some s) e = cc

-- where something stands there
pub stands : (o : Option ℕ) → is_some o ≡ true → has_some o ≡ true
stands None e = cc
stands (Some s) e = refl

-- where something stands there, and this unit is marked
pub frozen_but : (n r : Option ℕ) (u : ℕ) (o : Option ℕ) (b : Bool) → n ≡ r → b ≡ is_number r u → has_some o ≡ true → not b ≡ (if is_number n u then false else has_some o)
frozen_but n r u o b e q h = ap not q ∙ ap (λ x. not (is_number x u)) (sym e) ∙ by_case (is_number n u) where
  by_case : (c : Bool) → not c ≡ (if c then false else has_some o)
  by_case true = refl
  by_case false = sym h
