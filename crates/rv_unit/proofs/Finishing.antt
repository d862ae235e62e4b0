-- Which units have a finished entry, and which one writes.
use Rattle.std.proofs.Common.{◌≡◌, ℕ, ◌<◌, ◌≤◌, List, [], ◌∷◌, length, Option, Some, None, Bool, true, false, refl, ap, ◌∙◌, arith}
use Rattle.std.specs.Prelude.{◌&&◌, ◌||◌, not, if◌then◌else◌, ◌==◌, min}
use Rattle.std.proofs.lemmas.Bool.Decides.{nat_tests}
use Rattle.ix_plan.specs.Units.{has_some, with_unit}
use Rattle.rv_unit.specs.declared.entry.Entry.{Entry}
use Rattle.rv_unit.specs.Entries.{last_time, is_finished, has_finished, lower, writer, is_number, is_frozen, does_write, written_among, unit_and_serial}
use Rattle.rv_unit.specs.Timed.{IsTimed}
use Rattle.rv_unit.specs.Slots.{serial_at}

-- ---- the unit that writes
pub none_finished : (lasts : List ℕ) (u : ℕ) (l : List Entry) → writer lasts l ≡ None → has_finished lasts u l ≡ false
none_finished lasts u [] h = refl
none_finished lasts u (e ∷ rest) h = by_case (is_finished lasts e) (e.unit == u) h (λ h'. none_finished lasts u rest h') where
  by_case : (a b : Bool) → (if a then Some (lower e.unit (writer lasts rest)) else writer lasts rest) ≡ None →
      (writer lasts rest ≡ None → has_finished lasts u rest ≡ false) → ((a && b) || has_finished lasts u rest) ≡ false
  by_case true b h ih = cc
  by_case false b h ih = ih h

pub writer_finished : (lasts : List ℕ) (w : ℕ) (l : List Entry) → writer lasts l ≡ Some w → has_finished lasts w l ≡ true
writer_finished lasts w [] h = cc
writer_finished lasts w (e ∷ rest) h = by_case (is_finished lasts e) (writer lasts rest) (e.unit == w) refl h (λ h'. writer_finished lasts w rest h') where
  other : (c : Bool) → c ≡ true → (false || c) ≡ true
  other c h = h

  by_case : (a : Bool) (o : Option ℕ) (b : Bool) → (e.unit == w) ≡ b → (if a then Some (lower e.unit o) else o) ≡ Some w →
      (o ≡ Some w → has_finished lasts w rest ≡ true) → ((a && b) || has_finished lasts w rest) ≡ true
  by_case false o b q h ih = ih h
  by_case true o true q h ih = refl
  by_case true None false q h ih =
      let same : e.unit ≡ w = cc in
      absurd (grind (arith, nat_tests))
  by_case true (Some v) false q h ih =
      let least : min e.unit v ≡ w = cc in
      let same : v ≡ w = grind (arith, nat_tests) in
      ih (ap Some same)

pub writer_least : (lasts : List ℕ) (w u : ℕ) (l : List Entry) → writer lasts l ≡ Some w → has_finished lasts u l ≡ true → w ≤ u
writer_least lasts w u [] h f = cc
writer_least lasts w u (e ∷ rest) h f =
    by_case (is_finished lasts e) (writer lasts rest) refl (e.unit == u) refl h f (λ v r g. writer_least lasts v u rest r g) where
      by_case : (a : Bool) (o : Option ℕ) → writer lasts rest ≡ o → (b : Bool) → (e.unit == u) ≡ b → (if a then Some (lower e.unit o) else o) ≡ Some w →
          ((a && b) || has_finished lasts u rest) ≡ true → ((v : ℕ) → writer lasts rest ≡ Some v → has_finished lasts u rest ≡ true → v ≤ u) → w ≤ u
      by_case false o r b q h f ih = ih w (r ∙ h) f
      by_case true None r true q h f ih =
          let same : e.unit ≡ w = cc in
          grind (arith, nat_tests)
      by_case true None r false q h f ih =
          let never : has_finished lasts u rest ≡ false = none_finished lasts u rest r in
          cc
      by_case true (Some v) r true q h f ih =
          let least : min e.unit v ≡ w = cc in
          grind (arith, nat_tests)
      by_case true (Some v) r false q h f ih =
          let least : min e.unit v ≡ w = cc in
          let below : v ≤ u = ih v r f in
          omega arith

-- ---- what is finished in a part of the list
abbrev pub Within : List ℕ → List Entry → List Entry → Type 0
Within lasts all l = (u : ℕ) → has_finished lasts u l ≡ true → has_finished lasts u all ≡ true

pub within_rest : (lasts : List ℕ) (all : List Entry) (e : Entry) (rest : List Entry) → Within lasts all (e ∷ rest) → Within lasts all rest
within_rest lasts all e rest w = λ u h. w u (by_case (is_finished lasts e && (e.unit == u)) h) where
  by_case : (b : Bool) {c : Bool} → c ≡ true → (b || c) ≡ true
  by_case true h = refl
  by_case false h = h

-- one that is not frozen and does not write is not finished
pub not_finished : (lasts : List ℕ) (all : List Entry) (e : Entry) (rest : List Entry) → Within lasts all (e ∷ rest) → does_write lasts all e ≡ false →
    is_frozen lasts all e.unit ≡ false → is_finished lasts e ≡ false
not_finished lasts all e rest w d f = by_case (is_finished lasts e) (is_number (writer lasts all) e.unit) refl d f where
  same : (u : ℕ) (c : Bool) → ((true && (u == u)) || c) ≡ true
  same u c = grind (arith, nat_tests)

  by_case : (b c : Bool) → is_finished lasts e ≡ b → (b && c) ≡ false → (has_finished lasts e.unit all && not c) ≡ false → b ≡ false
  by_case false c q d f = refl
  by_case true true q d f = cc
  by_case true false q d f =
      let h : has_finished lasts e.unit all ≡ true = w e.unit (rw q (same e.unit _)) in
      cc (rw h at f)

-- a unit with a finished entry is one of the units
pub finished_below : (stages : ℕ) (lasts : List ℕ) (u : ℕ) (l : List Entry) → IsTimed stages lasts l → has_finished lasts u l ≡ true → u < length lasts
finished_below stages lasts u [] t h = cc
finished_below stages lasts u (e ∷ rest) t h =
    by_case (is_finished lasts e) (e.unit == u) refl h (λ h'. finished_below stages lasts u rest t.2 h') where
      by_case : (a b : Bool) → (e.unit == u) ≡ b → ((a && b) || has_finished lasts u rest) ≡ true → (has_finished lasts u rest ≡ true → u < length lasts) →
          u < length lasts
      by_case true true q h ih =
          let below : e.unit < length lasts = t.0.below in
          grind (arith, nat_tests)
      by_case true false q h ih = ih h
      by_case false b q h ih = ih h

-- ---- serials at the last time
-- the two tests for an entry of the unit at its last time are one
pub same_test : (lasts : List ℕ) (u : ℕ) (e : Entry) → (is_finished lasts e && (e.unit == u)) ≡ ((e.unit == u) && (e.time == last_time lasts u))
same_test lasts u e = by_case (e.unit == u) refl where
  both : (a : Bool) → (a && true) ≡ a
  both true = refl
  both false = refl

  neither : (a : Bool) → (a && false) ≡ false
  neither true = refl
  neither false = refl

  by_case : (b : Bool) → (e.unit == u) ≡ b → (is_finished lasts e && b) ≡ (b && (e.time == last_time lasts u))
  by_case true q =
      let same : e.unit ≡ u = grind (arith, nat_tests) in
      both (is_finished lasts e) ∙ ap (λ v. e.time == last_time lasts v) same
  by_case false q = neither (is_finished lasts e)

pub has_serial_at : (lasts : List ℕ) (u : ℕ) (l : List Entry) → has_some (serial_at u (last_time lasts u) l) ≡ has_finished lasts u l
has_serial_at lasts u [] = refl
has_serial_at lasts u (e ∷ rest) = rw (same_test lasts u e) (by_case ((e.unit == u) && (e.time == last_time lasts u)) (has_serial_at lasts u rest)) where
  by_case : (b : Bool) → has_some (serial_at u (last_time lasts u) rest) ≡ has_finished lasts u rest →
      has_some (if b then Some e.serial else serial_at u (last_time lasts u) rest) ≡ (b || has_finished lasts u rest)
  by_case true ih = refl
  by_case false ih = ih

-- ---- the entry that writes
pub nothing_written : (lasts : List ℕ) (all l : List Entry) → writer lasts all ≡ None → written_among lasts all l ≡ None
nothing_written lasts all [] h = refl
nothing_written lasts all (e ∷ rest) h = by_case (is_finished lasts e) (writer lasts all) h (nothing_written lasts all rest h) where
  by_case : (a : Bool) (o : Option ℕ) → o ≡ None → written_among lasts all rest ≡ None →
      (if a && is_number o e.unit then Some e else written_among lasts all rest) ≡ None
  by_case true None q ih = ih
  by_case true (Some w) q ih = cc
  by_case false o q ih = ih

pub written_serial : (lasts : List ℕ) (all : List Entry) (w : ℕ) (l : List Entry) → writer lasts all ≡ Some w →
    unit_and_serial (written_among lasts all l) ≡ with_unit w (serial_at w (last_time lasts w) l) None
written_serial lasts all w [] h = refl
written_serial lasts all w (e ∷ rest) h =
    by_case (is_finished lasts e && is_number (writer lasts all) e.unit) ((e.unit == w) && (e.time == last_time lasts w)) refl tests (written_serial lasts all w rest h) where
      turned : (w == e.unit) ≡ (e.unit == w)
      turned = grind (arith, nat_tests)

      tests : (is_finished lasts e && is_number (writer lasts all) e.unit) ≡ ((e.unit == w) && (e.time == last_time lasts w))
      tests = ap (λ o. is_finished lasts e && is_number o e.unit) h ∙ ap (λ b. is_finished lasts e && b) turned ∙ same_test lasts w e

      unit_is : ((e.unit == w) && (e.time == last_time lasts w)) ≡ true → e.unit ≡ w
      unit_is = first (e.unit == w) refl where
        first : (b : Bool) → (e.unit == w) ≡ b → (b && (e.time == last_time lasts w)) ≡ true → e.unit ≡ w
        first true q h = grind (arith, nat_tests)
        first false q h = cc

      by_case : (a b : Bool) → ((e.unit == w) && (e.time == last_time lasts w)) ≡ b → a ≡ b →
          unit_and_serial (written_among lasts all rest) ≡ with_unit w (serial_at w (last_time lasts w) rest) None →
          unit_and_serial (if a then Some e else written_among lasts all rest) ≡ with_unit w (if b then Some e.serial else serial_at w (last_time lasts w) rest) None
      by_case true true q s ih = ap (λ u. Some (u, e.serial)) (unit_is q)
      by_case false false q s ih = ih
      by_case true false q s ih = cc
      by_case false true q s ih = cc
