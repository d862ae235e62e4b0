-- What stands in units comes nearer to its end in each row in which nothing enters one.
use Rattle.std.proofs.Common.{◌≡◌, ℕ, zero, suc, ◌-◌, ◌<◌, ◌≤◌, List, [], ◌∷◌, length, map, Option, Some, None, Bool, true, false, refl, ap, arith, inl, inr}
use Rattle.std.specs.Prelude.{if◌then◌else◌, ◌==◌, max, slice_index}
use Rattle.std.proofs.lemmas.Bool.Decides.{nat_tests}
use Rattle.std.proofs.lemmas.Bool.{cases_lt}
use Rattle.rv_unit.specs.declared.entry.Entry.{Entry}
use Rattle.rv_unit.specs.Entries.{last_time, is_finished, lower, writer, is_frozen, does_write, moved, cons_unless, stepped, next_entries}
use Rattle.rv_unit.specs.Timed.{AreUnits, IsTimed}
use Rattle.rv_unit.specs.UnitLaws.{one_later}
use Rattle.rv_unit.proofs.Moving.{goes_on_law, leaves_law}
use Rattle.rv_machine.specs.UnitRank.{left_in, greatest_left, unit_rank}

-- ---- no entry is far from its last time

past_end : (l : List ℕ) (u : ℕ) → length l ≤ u → slice_index l u ≡ 0
past_end [] u le = refl
past_end (last ∷ l) zero le = absurd (omega (arith, le))
past_end (last ∷ l) (suc u) le = past_end l u (omega (arith, le))

last_most : (stages : ℕ) (lasts : List ℕ) (u : ℕ) → AreUnits stages lasts → last_time lasts u ≤ 64
last_most stages lasts u units = elim (cases_lt u (length lasts)) [
  | inl less ↦ units.most u 0 less
  | inr more ↦ let z = past_end lasts u more in omega (arith, z)
]

pub timed_left : (stages : ℕ) (lasts : List ℕ) (l : List Entry) → AreUnits stages lasts → IsTimed stages lasts l → greatest_left lasts l ≤ 64 - stages
timed_left stages lasts [] units t = omega arith
timed_left stages lasts (e ∷ l) units t =
    let ih = timed_left stages lasts l units t.2 in
    let a = last_most stages lasts e.unit units in
    let b = t.0.first in
    omega (arith, ih, a, b)

-- ---- a row later

-- no entry goes back
stepped_left : (lasts : List ℕ) (all l : List Entry) → greatest_left lasts (stepped lasts all l) ≤ greatest_left lasts l
stepped_left lasts all [] = omega arith
stepped_left lasts all (e ∷ l) = by_case (does_write lasts all e) (stepped_left lasts all l) where
  on : (b : Bool) → last_time lasts e.unit - (if b then e.time else suc e.time) ≤ last_time lasts e.unit - e.time
  on true = omega arith
  on false = omega arith

  by_case : (b : Bool) → greatest_left lasts (stepped lasts all l) ≤ greatest_left lasts l →
      greatest_left lasts (cons_unless b (moved lasts all e) (stepped lasts all l)) ≤ max (left_in lasts e) (greatest_left lasts l)
  by_case true ih = omega (arith, ih)
  by_case false ih = let a = on (is_frozen lasts all e.unit) in omega (arith, ih, a)

-- each comes nearer where all go on
later_left : (lasts : List ℕ) (l : List Entry) → greatest_left lasts (map one_later l) ≤ greatest_left lasts l - 1
later_left lasts [] = omega arith
later_left lasts (e ∷ l) = let ih = later_left lasts l in omega (arith, ih)

later_length : (l : List Entry) → length (map one_later l) ≡ length l
later_length [] = refl
later_length (e ∷ l) = ap suc (later_length l)

-- one that is not at its last time has some rows to go
some_left : (lasts : List ℕ) (e : Entry) (l : List Entry) → e.time ≤ last_time lasts e.unit → writer lasts (e ∷ l) ≡ None → 0 < greatest_left lasts (e ∷ l)
some_left lasts e l le none = by_case (is_finished lasts e) (writer lasts l) refl none where
  by_case : (b : Bool) (o : Option ℕ) → (e.time == last_time lasts e.unit) ≡ b → (if b then Some (lower e.unit o) else o) ≡ None → 0 < max (last_time lasts e.unit - e.time) (greatest_left lasts l)
  by_case true o q h = cc
  by_case false o q h = let less = below e.time (last_time lasts e.unit) le q in omega (arith, less) where
    below : (a b : ℕ) → a ≤ b → (a == b) ≡ false → a < b
    below a b le q = grind (arith, nat_tests)

-- where something stands in a unit, the rank falls
pub units_fall : (stages : ℕ) (lasts : List ℕ) (e : Entry) (l : List Entry) → AreUnits stages lasts → IsTimed stages lasts (e ∷ l) → suc (unit_rank lasts (stepped lasts (e ∷ l) (e ∷ l))) ≤ unit_rank lasts (e ∷ l)
units_fall stages lasts e l units t = by_writer (writer lasts (e ∷ l)) refl where
  by_writer : (o : Option ℕ) → writer lasts (e ∷ l) ≡ o → suc (unit_rank lasts (stepped lasts (e ∷ l) (e ∷ l))) ≤ unit_rank lasts (e ∷ l)
  by_writer None w =
      let on : stepped lasts (e ∷ l) (e ∷ l) ≡ map one_later (e ∷ l) = (goes_on_law lasts (e ∷ l) w).1 in
      let same = ap (λ (a : List Entry). unit_rank lasts a) on in
      let less = later_left lasts (e ∷ l) in
      let long = later_length (e ∷ l) in
      let some = some_left lasts e l t.0.last w in
      omega (arith, same, less, long, some)
  by_writer (Some u) w =
      let one = leaves_law stages lasts (e ∷ l) u units t w in
      let less = stepped_left lasts (e ∷ l) (e ∷ l) in
      omega (arith, one, less)

-- also what enters is not far
pub next_left : (stages : ℕ) (lasts : List ℕ) (enter : Option (ℕ × ℕ)) (l : List Entry) → AreUnits stages lasts → IsTimed stages lasts l → greatest_left lasts (next_entries stages lasts enter l) ≤ 64 - stages
next_left stages lasts None l units t =
    let a = stepped_left lasts l l in
    let b = timed_left stages lasts l units t in
    omega (arith, a, b)
next_left stages lasts (Some (unit, serial)) l units t =
    let a = stepped_left lasts l l in
    let b = timed_left stages lasts l units t in
    let c = last_most stages lasts unit units in
    omega (arith, a, b, c)
