-- The entries show the slots of the units.
use Rattle.std.proofs.Common.{◌≡◌, ℕ, zero, suc, ◌+◌, ◌<◌, ◌≤◌, List, [], ◌∷◌, ◌++◌, length, take, Option, Some, None, Bool, true, false, refl, sym, ap, ◌∙◌, subst, arith, All}
use Rattle.std.specs.Prelude.{◌&&◌, ◌||◌, not, if◌then◌else◌, ◌==◌, ◌-◌, slice_get}
use Rattle.std.proofs.lemmas.Bool.Decides.{nat_tests}
use Rattle.ix_plan.specs.Units.{Slots, finished, with_unit, written_from, unit_written, has_some, is_of, frozen_with, serial_for, moved_on, next_from, next_units}
use Rattle.rv_unit.specs.declared.entry.Entry.{Entry}
use Rattle.rv_unit.specs.Entries.{last_time, has_finished, writer, is_number, is_frozen, written_entry, unit_and_serial, stepped, entered, next_entries}
use Rattle.rv_unit.specs.Timed.{AreUnits, IsTimed, CanEnter}
use Rattle.rv_unit.specs.Slots.{serial_at, slots_from, units_from, units_of, unit_named}
use Rattle.rv_unit.specs.UnitLaws.{WrittenLaw, FrozenLaw, NextLaw}
use Rattle.rv_unit.proofs.Finishing.{none_finished, writer_finished, writer_least, finished_below, has_serial_at, nothing_written, written_serial}
use Rattle.rv_unit.proofs.Moving.{first_time, serial_frozen, serial_moved, serial_first}

-- ---- the last times from a unit on
record IsRest (u : ℕ) (ls lasts : List ℕ) : Type 0 where
  times : (k : ℕ) → last_time ls k ≡ last_time lasts (u + k)
  count : u + length ls ≡ length lasts

whole : (lasts : List ℕ) → IsRest 0 lasts lasts
whole lasts = record { times = λ k. (let none : k ≡ 0 + k = omega arith in ap (λ j. last_time lasts j) none); count = omega arith }

head_last : (u last : ℕ) (ls lasts : List ℕ) → IsRest u (last ∷ ls) lasts → last ≡ last_time lasts u
head_last u last ls lasts r = r.times 0 ∙ ap (λ j. last_time lasts j) none where
  none : u + 0 ≡ u
  none = omega arith

rest_next : (u last : ℕ) (ls lasts : List ℕ) → IsRest u (last ∷ ls) lasts → IsRest (u + 1) ls lasts
rest_next u last ls lasts r = record { times = λ k. r.times (suc k) ∙ ap (λ j. last_time lasts j) (more k); count = (let c = r.count in omega (arith, c)) } where
  more : (k : ℕ) → u + suc k ≡ u + 1 + k
  more k = omega arith

head_first : (stages : ℕ) (u last : ℕ) (ls lasts : List ℕ) → All (λ last. stages ≤ last) lasts → IsRest u (last ∷ ls) lasts → stages ≤ last
head_first stages u last ls lasts h r =
    let c = r.count in
    let lt : u < length lasts = omega (arith, c) in
    let le = first_time stages lasts u h lt in
    let same = head_last u last ls lasts r in
    omega (arith, le, same)

-- ---- the serial at a unit's last time
finished_slots : (u t n : ℕ) (es : List Entry) → finished (slots_from u t (suc n) es) ≡ serial_at u (t + n) es
finished_slots u t zero es = ap (λ k. serial_at u k es) none where
  none : t ≡ t + 0
  none = omega arith
finished_slots u t (suc n) es = finished_slots u (suc t) n es ∙ ap (λ k. serial_at u k es) more where
  more : suc t + n ≡ t + suc n
  more = omega arith

pub finished_at : (stages u last : ℕ) (es : List Entry) → stages ≤ last → finished (slots_from u stages (last + 1 - stages) es) ≡ serial_at u last es
finished_at stages u last es le =
    let count : last + 1 - stages ≡ suc (last - stages) = omega arith in
    let end : stages + (last - stages) ≡ last = omega arith in
    ap (λ n. finished (slots_from u stages n es)) count ∙ finished_slots u stages (last - stages) es ∙ ap (λ k. serial_at u k es) end

-- ---- what is written
none_from : (stages : ℕ) (lasts : List ℕ) (es : List Entry) (u : ℕ) (ls : List ℕ) → All (λ last. stages ≤ last) lasts → IsRest u ls lasts →
    ((k : ℕ) → serial_at k (last_time lasts k) es ≡ None) → written_from u (units_from u stages ls es) ≡ None
none_from stages lasts es u [] h r n = refl
none_from stages lasts es u (last ∷ ls) h r n =
    let here : finished (slots_from u stages (last + 1 - stages) es) ≡ None =
    finished_at stages u last es (head_first stages u last ls lasts h r) ∙ ap (λ t. serial_at u t es) (head_last u last ls lasts r) ∙ n u in
    ap (λ o. with_unit u o (written_from (u + 1) (units_from (u + 1) stages ls es))) here
    ∙ none_from stages lasts es (u + 1) ls h (rest_next u last ls lasts r) n

some_from : (stages : ℕ) (lasts : List ℕ) (es : List Entry) (w s u : ℕ) (ls : List ℕ) → All (λ last. stages ≤ last) lasts → IsRest u ls lasts →
    u ≤ w → w < u + length ls → serial_at w (last_time lasts w) es ≡ Some s → ((k : ℕ) → k < w → serial_at k (last_time lasts k) es ≡ None) →
    written_from u (units_from u stages ls es) ≡ Some (w, s)
some_from stages lasts es w s u [] h r le lt at n = absurd (omega arith)
some_from stages lasts es w s u (last ∷ ls) h r le lt at n =
    by_case (u == w) refl (λ le'. some_from stages lasts es w s (u + 1) ls h (rest_next u last ls lasts r) le' (omega arith) at n) where
      here : finished (slots_from u stages (last + 1 - stages) es) ≡ serial_at u (last_time lasts u) es
      here = finished_at stages u last es (head_first stages u last ls lasts h r) ∙ ap (λ t. serial_at u t es) (head_last u last ls lasts r)

      others : Option (ℕ × ℕ)
      others = written_from (u + 1) (units_from (u + 1) stages ls es)

      by_case : (b : Bool) → (u == w) ≡ b → (u + 1 ≤ w → written_from (u + 1) (units_from (u + 1) stages ls es) ≡ Some (w, s)) →
          with_unit u (finished (slots_from u stages (last + 1 - stages) es)) (written_from (u + 1) (units_from (u + 1) stages ls es)) ≡ Some (w, s)
      by_case true q ih =
          let same : u ≡ w = grind (arith, nat_tests) in
          ap (λ o. with_unit u o (written_from (u + 1) (units_from (u + 1) stages ls es))) (here ∙ ap (λ v. serial_at v (last_time lasts v) es) same ∙ at)
          ∙ ap (λ v. Some (v, s)) same
      by_case false q ih =
          let lower : u < w = grind (arith, nat_tests) in
          ap (λ o. with_unit u o (written_from (u + 1) (units_from (u + 1) stages ls es))) (here ∙ n u lower) ∙ ih (omega arith)

-- a unit without a finished entry has no serial at its last time
no_serial : (lasts : List ℕ) (u : ℕ) (es : List Entry) → has_finished lasts u es ≡ false → serial_at u (last_time lasts u) es ≡ None
no_serial lasts u es h = by_case (serial_at u (last_time lasts u) es) (has_serial_at lasts u es ∙ h) where
  by_case : (o : Option ℕ) → has_some o ≡ false → o ≡ None
  by_case None q = refl
  by_case (Some s) q = cc

none_below : (lasts : List ℕ) (w k : ℕ) (es : List Entry) → writer lasts es ≡ Some w → k < w → serial_at k (last_time lasts k) es ≡ None
none_below lasts w k es h lt = no_serial lasts k es (by_case (has_finished lasts k es) refl) where
  by_case : (b : Bool) → has_finished lasts k es ≡ b → b ≡ false
  by_case false q = refl
  by_case true q = (let le = writer_least lasts w k es h q in absurd (omega (arith, le)))

pub written_law : WrittenLaw
written_law stages lasts es units t = by_case (writer lasts es) refl where
  shown : (w : ℕ) → writer lasts es ≡ Some w → (o : Option ℕ) → serial_at w (last_time lasts w) es ≡ o → has_some o ≡ true →
      unit_written (units_of stages lasts es) ≡ with_unit w o None
  shown w h None q f = cc
  shown w h (Some s) q f =
      let below = finished_below stages lasts w es t (writer_finished lasts w es h) in
      some_from stages lasts es w s 0 lasts units.first (whole lasts) (omega arith) (omega (arith, below)) q (λ k lt. none_below lasts w k es h lt)

  by_case : (o : Option ℕ) → writer lasts es ≡ o → unit_written (units_of stages lasts es) ≡ unit_and_serial (written_entry lasts es)
  by_case None h =
      none_from stages lasts es 0 lasts units.first (whole lasts) (λ k. no_serial lasts k es (none_finished lasts k es h))
      ∙ ap unit_and_serial (sym (nothing_written lasts es es h))
  by_case (Some w) h =
      shown w h (serial_at w (last_time lasts w) es) refl (has_serial_at lasts w es ∙ writer_finished lasts w es h)
      ∙ sym (written_serial lasts es w es h)

-- the unit that writes is the one that is shown
pub shows_writer : (stages : ℕ) (lasts : List ℕ) (es : List Entry) → AreUnits stages lasts → IsTimed stages lasts es →
    writer lasts es ≡ unit_named (unit_written (units_of stages lasts es))
shows_writer stages lasts es units t = by_case (writer lasts es) refl ∙ ap unit_named (sym (written_law stages lasts es units t)) where
  shown : (w : ℕ) (o : Option ℕ) → has_some o ≡ true → Some w ≡ unit_named (with_unit w o None)
  shown w None f = cc
  shown w (Some s) f = refl

  by_case : (o : Option ℕ) → writer lasts es ≡ o → o ≡ unit_named (unit_and_serial (written_entry lasts es))
  by_case None h = ap (λ e. unit_named (unit_and_serial e)) (sym (nothing_written lasts es es h))
  by_case (Some w) h =
      shown w (serial_at w (last_time lasts w) es) (has_serial_at lasts w es ∙ writer_finished lasts w es h)
      ∙ ap unit_named (sym (written_serial lasts es w es h))

-- ---- what is frozen
-- it is the unit that writes of which is shown that it is written
shows_unit : (stages : ℕ) (lasts : List ℕ) (es : List Entry) (u : ℕ) → AreUnits stages lasts → IsTimed stages lasts es →
    is_of u (unit_written (units_of stages lasts es)) ≡ is_number (writer lasts es) u
shows_unit stages lasts es u units t = ap (λ o. is_of u o) (written_law stages lasts es units t) ∙ by_case (writer lasts es) refl where
  shown : (w : ℕ) (o : Option ℕ) → has_some o ≡ true → is_of u (with_unit w o None) ≡ is_number (Some w) u
  shown w None f = cc
  shown w (Some s) f = refl

  by_case : (o : Option ℕ) → writer lasts es ≡ o → is_of u (unit_and_serial (written_entry lasts es)) ≡ is_number o u
  by_case None h = ap (λ e. is_of u (unit_and_serial e)) (nothing_written lasts es es h)
  by_case (Some w) h =
      ap (λ o. is_of u o) (written_serial lasts es w es h)
      ∙ shown w (serial_at w (last_time lasts w) es) (has_serial_at lasts w es ∙ writer_finished lasts w es h)

frozen_slots : (stages : ℕ) (lasts : List ℕ) (es : List Entry) (u last : ℕ) → AreUnits stages lasts → IsTimed stages lasts es → stages ≤ last →
    last ≡ last_time lasts u →
    frozen_with u (slots_from u stages (last + 1 - stages) es) (unit_written (units_of stages lasts es)) ≡ is_frozen lasts es u
frozen_slots stages lasts es u last units t le same =
    ap (λ b. if b then false else has_some (finished (slots_from u stages (last + 1 - stages) es))) (shows_unit stages lasts es u units t)
    ∙ ap (λ o. if is_number (writer lasts es) u then false else has_some o) (finished_at stages u last es le ∙ ap (λ k. serial_at u k es) same)
    ∙ ap (λ b. if is_number (writer lasts es) u then false else b) (has_serial_at lasts u es)
    ∙ both (is_number (writer lasts es) u) (has_finished lasts u es) where
      both : (a b : Bool) → (if a then false else b) ≡ (b && not a)
      both true true = refl
      both true false = refl
      both false true = refl
      both false false = refl

slots_at : (stages : ℕ) (lasts : List ℕ) (es : List Entry) (u : ℕ) (ls : List ℕ) (k : ℕ) (slots : Slots) → IsRest u ls lasts →
    slice_get (units_from u stages ls es) k ≡ Some slots →
    (u + k < length lasts) × (slots ≡ slots_from (u + k) stages (last_time lasts (u + k) + 1 - stages) es)
slots_at stages lasts es u [] k slots r h = cc
slots_at stages lasts es u (last ∷ ls) zero slots r h =
    let c = r.count in
    let none : u ≡ u + 0 = omega arith in
    let here : slots_from u stages (last + 1 - stages) es ≡ slots = cc in (
      omega (arith, c),
      sym here ∙ ap (λ l. slots_from u stages (l + 1 - stages) es) (head_last u last ls lasts r)
          ∙ ap (λ v. slots_from v stages (last_time lasts v + 1 - stages) es) none,
    )
slots_at stages lasts es u (last ∷ ls) (suc k) slots r h =
    let more : u + 1 + k ≡ u + suc k = omega arith in
    let there = slots_at stages lasts es (u + 1) ls k slots (rest_next u last ls lasts r) h in
    subst (λ v. (v < length lasts) × (slots ≡ slots_from v stages (last_time lasts v + 1 - stages) es)) more there

pub frozen_law : FrozenLaw
frozen_law stages lasts es u slots units t h =
    let none : 0 + u ≡ u = omega arith in
    let at = subst (λ v. (v < length lasts) × (slots ≡ slots_from v stages (last_time lasts v + 1 - stages) es)) none
    (slots_at stages lasts es 0 lasts u slots (whole lasts) h) in
    ap (λ l. frozen_with u l (unit_written (units_of stages lasts es))) at.1
    ∙ frozen_slots stages lasts es u (last_time lasts u) units t (first_time stages lasts u units.first at.0) refl

-- ---- a row later
same_slots : (u t n : ℕ) (es others : List Entry) → ((k : ℕ) → serial_at u k es ≡ serial_at u k others) → slots_from u t n es ≡ slots_from u t n others
same_slots u t zero es others h = refl
same_slots u t (suc n) es others h =
    ap (λ o. o ∷ slots_from u (suc t) n es) (h t) ∙ ap (λ l. serial_at u t others ∷ l) (same_slots u (suc t) n es others h)

shifted : (u t m : ℕ) (es others : List Entry) → ((k : ℕ) → t ≤ k → k < t + m → serial_at u k es ≡ serial_at u (suc k) others) →
    take m (slots_from u t (suc m) es) ≡ slots_from u (suc t) m others
shifted u t zero es others h = refl
shifted u t (suc m) es others h =
    ap (λ o. o ∷ take m (slots_from u (suc t) (suc m) es)) (h t (omega arith) (omega arith))
    ∙ ap (λ l. serial_at u (suc t) others ∷ l) (shifted u (suc t) m es others (λ k le lt. h k (omega arith) (omega arith)))

count_slots : (u t n : ℕ) (es : List Entry) → length (slots_from u t n es) ≡ n
count_slots u t zero es = refl
count_slots u t (suc n) es = ap suc (count_slots u (suc t) n es)

moved_slots : (stages u last : ℕ) (es others : List Entry) (first : Option ℕ) → stages ≤ last → serial_at u stages others ≡ first →
    ((k : ℕ) → stages ≤ k → k < last → serial_at u k es ≡ serial_at u (suc k) others) →
    moved_on first (slots_from u stages (last + 1 - stages) es) ≡ slots_from u stages (last + 1 - stages) others
moved_slots stages u last es others first le f h =
    ap (λ n. take n (first ∷ slots_from u stages (last + 1 - stages) es)) (count_slots u stages (last + 1 - stages) es)
    ∙ ap (λ n. take n (first ∷ slots_from u stages n es)) count
    ∙ ap (λ o. o ∷ take (last - stages) (slots_from u stages (suc (last - stages)) es)) (sym f)
    ∙ ap (λ l. serial_at u stages others ∷ l) (shifted u stages (last - stages) es others (λ k a b. h k a (omega arith)))
    ∙ ap (λ n. slots_from u stages n others) (sym count) where
      count : last + 1 - stages ≡ suc (last - stages)
      count = omega arith

-- what enters, by its unit and time
enters_first : (stages u : ℕ) (enter : Option (ℕ × ℕ)) (l : List Entry) → serial_at u stages l ≡ None →
    serial_at u stages (entered stages enter ++ l) ≡ serial_for u enter
enters_first stages u None l h = h
enters_first stages u (Some (v, s)) l h = by_case (v == u) where
  at : (stages == stages) ≡ true
  at = grind (arith, nat_tests)

  by_case : (b : Bool) → (if b && (stages == stages) then Some s else serial_at u stages l) ≡ (if b then Some s else None)
  by_case true = rw at refl
  by_case false = h

enters_later : (stages u k : ℕ) (enter : Option (ℕ × ℕ)) (l : List Entry) → stages ≤ k →
    serial_at u (suc k) (entered stages enter ++ l) ≡ serial_at u (suc k) l
enters_later stages u k None l h = refl
enters_later stages u k (Some (v, s)) l h = by_case (v == u) where
  other : (stages == suc k) ≡ false
  other = grind (arith, nat_tests)

  by_case : (b : Bool) → (if b && (stages == suc k) then Some s else serial_at u (suc k) l) ≡ serial_at u (suc k) l
  by_case true = rw other refl
  by_case false = refl

enters_other : (stages u k : ℕ) (lasts : List ℕ) (all : List Entry) (enter : Option (ℕ × ℕ)) (l : List Entry) → CanEnter lasts all enter →
    is_frozen lasts all u ≡ true → serial_at u k (entered stages enter ++ l) ≡ serial_at u k l
enters_other stages u k lasts all None l c f = refl
enters_other stages u k lasts all (Some (v, s)) l c f = by_case (v == u) refl where
  by_case : (b : Bool) → (v == u) ≡ b → (if b && (stages == k) then Some s else serial_at u k l) ≡ serial_at u k l
  by_case true q =
      let same : v ≡ u = grind (arith, nat_tests) in
      let goes : is_frozen lasts all u ≡ false = ap (λ x. is_frozen lasts all x) (sym same) ∙ c.1 in
      cc
  by_case false q = refl

next_slots : (stages : ℕ) (lasts : List ℕ) (es : List Entry) (enter : Option (ℕ × ℕ)) (u last : ℕ) → AreUnits stages lasts → IsTimed stages lasts es →
    CanEnter lasts es enter → stages ≤ last → last ≡ last_time lasts u →
    (if frozen_with u (slots_from u stages (last + 1 - stages) es) (unit_written (units_of stages lasts es)) then slots_from u stages (last + 1 - stages) es
    else moved_on (serial_for u enter) (slots_from u stages (last + 1 - stages) es)) ≡
    slots_from u stages (last + 1 - stages) (next_entries stages lasts enter es)
next_slots stages lasts es enter u last units t c le same =
    ap (λ b. if b then slots_from u stages (last + 1 - stages) es else moved_on (serial_for u enter) (slots_from u stages (last + 1 - stages) es))
    (frozen_slots stages lasts es u last units t le same) ∙ by_case (is_frozen lasts es u) refl where
      by_case : (b : Bool) → is_frozen lasts es u ≡ b →
          (if b then slots_from u stages (last + 1 - stages) es else moved_on (serial_for u enter) (slots_from u stages (last + 1 - stages) es)) ≡
          slots_from u stages (last + 1 - stages) (next_entries stages lasts enter es)
      by_case true f =
          same_slots u stages (last + 1 - stages) es (next_entries stages lasts enter es)
          (λ k. sym (enters_other stages u k lasts es enter (stepped lasts es es) c f ∙ serial_frozen lasts es u k es f))
      by_case false f =
          moved_slots stages u last es (next_entries stages lasts enter es) (serial_for u enter) le
          (enters_first stages u enter (stepped lasts es es) (serial_first stages lasts es u es f t))
          (λ k a b. sym (enters_later stages u k enter (stepped lasts es es) a ∙ serial_moved lasts es u k es f (omega arith)))

next_all : (stages : ℕ) (lasts : List ℕ) (es : List Entry) (enter : Option (ℕ × ℕ)) (u : ℕ) (ls : List ℕ) → AreUnits stages lasts → IsTimed stages lasts es →
    CanEnter lasts es enter → IsRest u ls lasts →
    next_from u (unit_written (units_of stages lasts es)) enter (units_from u stages ls es) ≡ units_from u stages ls (next_entries stages lasts enter es)
next_all stages lasts es enter u [] units t c r = refl
next_all stages lasts es enter u (last ∷ ls) units t c r =
    ap (λ l. l ∷ next_from (u + 1) (unit_written (units_of stages lasts es)) enter (units_from (u + 1) stages ls es))
    (next_slots stages lasts es enter u last units t c (head_first stages u last ls lasts units.first r) (head_last u last ls lasts r))
    ∙ ap (λ l. slots_from u stages (last + 1 - stages) (next_entries stages lasts enter es) ∷ l)
    (next_all stages lasts es enter (u + 1) ls units t c (rest_next u last ls lasts r))

pub next_law : NextLaw
next_law stages lasts es enter units t c = next_all stages lasts es enter 0 lasts units t c (whole lasts)

-- ---- where nothing stands and nothing enters
pub idle_written : (stages : ℕ) (lasts : List ℕ) (es : List Entry) → AreUnits stages lasts → IsTimed stages lasts es → es ≡ [] →
    unit_written (units_of stages lasts es) ≡ None
idle_written stages lasts es units t q = written_law stages lasts es units t ∙ ap (λ l. unit_and_serial (written_entry lasts l)) q

pub idle_next : (stages : ℕ) (lasts : List ℕ) (es : List Entry) (enter : Option (ℕ × ℕ)) → AreUnits stages lasts → IsTimed stages lasts es →
    CanEnter lasts es enter → es ≡ [] → enter ≡ None → next_units enter (units_of stages lasts es) ≡ units_of stages lasts es
idle_next stages lasts es enter units t c q r =
    next_law stages lasts es enter units t c ∙ ap (λ o. units_of stages lasts (next_entries stages lasts o es)) r
    ∙ ap (λ l. units_of stages lasts (stepped lasts l l)) q ∙ ap (λ l. units_of stages lasts l) (sym q)

-- ---- past the last unit

other_unit : (a b : ℕ) → a < b → (a == b) ≡ false
other_unit a b h = grind (arith, nat_tests)

past_units : (stages : ℕ) (lasts : List ℕ) (entries : List Entry) (u : ℕ) → IsTimed stages lasts entries → length lasts ≤ u → has_finished lasts u entries ≡ false
past_units stages lasts [] u h le = refl
past_units stages lasts (e ∷ rest) u h le = (let below = h.0.below in rw (other_unit e.unit u (omega (arith, below, le)), past_units stages lasts rest u h.2 le) (by_case (e.time == last_time lasts e.unit))) where
  by_case : (b : Bool) → ((b && false) || false) ≡ false
  by_case true = refl
  by_case false = refl

-- no unit past the last one is frozen
pub none_frozen : (stages : ℕ) (lasts : List ℕ) (entries : List Entry) (u : ℕ) → IsTimed stages lasts entries → length lasts ≤ u → is_frozen lasts entries u ≡ false
none_frozen stages lasts entries u h le = rw (past_units stages lasts entries u h le) refl
