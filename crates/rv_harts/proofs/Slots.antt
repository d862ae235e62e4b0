-- A cell of a hart stands in a slot of its hart, and two harts never meet in a stage.
use Rattle.std.proofs.Common.{◌≡◌, ◌∙◌, refl, sym, ap, ℕ, zero, suc, ◌-◌, ◌%◌, List, [], ◌∷◌, Option, Some, None, Bool, true, false, arith}
use Rattle.std.specs.Prelude.{◌&&◌, not, ◌==◌, if◌then◌else◌, is_some, slice_get, take, replicate}
use Rattle.std.proofs.lemmas.Bool.Decides.{nat_tests}
use Rattle.ix_eval.specs.Tables.{table}
use Rattle.rv_lawful.specs.Settings.{Setting}
use Rattle.rv_seq.specs.Steps.{word_at}
use Rattle.rv_harts.specs.declared.row.BarrelCell.{BarrelCell}
use Rattle.rv_harts.specs.declared.row.Turn.{Turn}
use Rattle.rv_harts.specs.Harts.{Fetched, Hart}
use Rattle.rv_harts.specs.HartRows.{fetches, fetched, entering, stages_in, event_in, lost, cleared, stopping, next_hart, hart_at, turn_at, cell_with, cell_at, hart_row}
use Rattle.rv_harts.specs.BarrelLaws.{IsSlot, SlotLaw, ApartLaw}

none_some : {A : Type 0} (x : A) → ◌≡◌ {A = Option A} None (Some x) → ⊥
none_some x e = cc

some_inside : {A : Type 0} (x y : A) → ◌≡◌ {A = Option A} (Some x) (Some y) → x ≡ y
some_inside x y e = cc

none_inside : (c : Fetched) → ◌≡◌ {A = Option (Option Fetched)} (Some None) (Some (Some c)) → ⊥
none_inside c e = none_some c (some_inside None (Some c) e)

same_number : (a b : ℕ) → (a == b) ≡ true → a ≡ b
same_number a b e = grind (arith, nat_tests)

-- what stands in some stages, where some are emptied or cut off, stood there before

after_clearing : (n : ℕ) (stages : List (Option Fetched)) (i : ℕ) (c : Fetched) → slice_get (cleared n stages) i ≡ Some (Some c) → slice_get stages i ≡ Some (Some c)
after_clearing zero stages i c e = e
after_clearing (suc n) [] i c e = e
after_clearing (suc n) (s ∷ stages) zero c e = absurd (none_inside c e)
after_clearing (suc n) (s ∷ stages) (suc i) c e = after_clearing n stages i c e

after_cut : (n : ℕ) (stages : List (Option Fetched)) (i : ℕ) (c : Fetched) → slice_get (take n stages) i ≡ Some (Some c) → slice_get stages i ≡ Some (Some c)
after_cut zero stages i c e = absurd (none_some (Some c) e)
after_cut (suc n) [] i c e = absurd (none_some (Some c) e)
after_cut (suc n) (s ∷ stages) zero c e = e
after_cut (suc n) (s ∷ stages) (suc i) c e = after_cut n stages i c e

nothing_stands : (n i : ℕ) (c : Fetched) → slice_get (replicate n None) i ≡ Some (Some c) → ⊥
nothing_stands zero i c e = none_some (Some c) e
nothing_stands (suc n) zero c e = none_inside c e
nothing_stands (suc n) (suc i) c e = nothing_stands n i c e

after_stop : (b : Bool) (n : ℕ) (stages : List (Option Fetched)) (i : ℕ) (c : Fetched) → slice_get (if b then replicate n None else stages) i ≡ Some (Some c) → slice_get stages i ≡ Some (Some c)
after_stop true n stages i c e = absurd (nothing_stands n i c e)
after_stop false n stages i c e = e

-- what is fetched is fetched in a row of the hart

where_true : (b : Bool) (o : Option Fetched) (c : Fetched) → (if b then o else None) ≡ Some c → b ≡ true
where_true true o c e = refl
where_true false o c e = absurd (none_some c e)

first_true : (a b : Bool) → (a && b) ≡ true → a ≡ true
first_true true b e = refl
first_true false b e = e

fetched_in : (k : Setting) (h n : ℕ) (g : Hart) (c : Fetched) → entering k h n g ≡ Some c → n % 2 ≡ h
fetched_in k h n g c e = same_number (n % 2) h (first_true ((n % 2) == h) (not g.stopped) (where_true (fetches h n g) (fetched g (word_at k.image g.fetch)) c e))

-- slots

in_slot : (k : Setting) (h n : ℕ) (g : Hart) → ((i : ℕ) (c : Fetched) → slice_get g.above i ≡ Some (Some c) → IsSlot h n (suc i)) →
    (stage : ℕ) (c : Fetched) → slice_get (stages_in k h n g) stage ≡ Some (Some c) → IsSlot h n stage
in_slot k h n g above zero c e =
    let none_less : n - 0 ≡ n = omega arith in
    record { begun = omega arith; parity = ap (λ m. m % 2) none_less ∙ fetched_in k h n g c (some_inside (entering k h n g) (Some c) e) }
in_slot k h n g above (suc i) c e = above i c e

a_row_later : (h n stage : ℕ) → IsSlot h n stage → IsSlot h (suc n) (suc stage)
a_row_later h n stage s =
    let one_less : suc n - suc stage ≡ n - stage = omega arith in
    record { begun = omega (arith, s.begun); parity = ap (λ m. m % 2) one_less ∙ s.parity }

above_in_slots : (k : Setting) (h n i : ℕ) (c : Fetched) → slice_get (hart_at k h n).above i ≡ Some (Some c) → IsSlot h n (suc i)
unfolding hart_at next_hart
above_in_slots k h zero i c e = absurd (nothing_stands (k.shape.stages - 1) i c e)
above_in_slots k h (suc n) i c e =
    let g = hart_at k h n in
    a_row_later h n i
    (in_slot k h n g (above_in_slots k h n) i c
    (after_clearing (lost (event_in k h n g)) (stages_in k h n g) i c
    (after_cut (k.shape.stages - 1) (cleared (lost (event_in k h n g)) (stages_in k h n g)) i c
    (after_stop (is_some (stopping k h n g)) (k.shape.stages - 1) (take (k.shape.stages - 1) (cleared (lost (event_in k h n g)) (stages_in k h n g))) i c e))))

-- cells

in_table : {A : Type 0} (f : ℕ → Option A) (n i : ℕ) (x : A) → slice_get (table f n) i ≡ Some (Some x) → f i ≡ Some x
in_table f zero i x e = absurd (none_some (Some x) e)
in_table f (suc n) zero x e = some_inside (f 0) (Some x) e
in_table f (suc n) (suc i) x e = in_table (λ r. f (suc r)) n i x e

-- a cell is that of what stands in its stage, and of this hart
pub record IsCellWith (h : ℕ) (o : Option (Option Fetched)) (c : BarrelCell) : Type 0 where
  pub is : Fetched
  pub there : o ≡ Some (Some is)
  pub own : c.hart ≡ h

pub cell_tells : (h : ℕ) (turn : Option Turn) (o : Option (Option Fetched)) (c : BarrelCell) → cell_with h turn o ≡ Some c → IsCellWith h o c
cell_tells h turn None c e = absurd (none_some c e)
cell_tells h turn (Some None) c e = absurd (none_some c e)
cell_tells h turn (Some (Some d)) c e = record { is = d; there = refl; own = sym (ap (λ (x : BarrelCell). x.hart) (some_inside whole c e)) } where
  whole : BarrelCell
  whole = record { hart = h; serial = d.serial; at = d.at; word = d.word; turned = turn }

pub cell_in_slot : (k : Setting) (h n stage : ℕ) (c : BarrelCell) → cell_at k h n (hart_at k h n) stage ≡ Some c → IsSlot h n stage
cell_in_slot k h n stage c e =
    let t = cell_tells h (turn_at stage (event_in k h n (hart_at k h n))) (slice_get (stages_in k h n (hart_at k h n)) stage) c e in
    in_slot k h n (hart_at k h n) (above_in_slots k h n) stage t.is t.there

pub slot_law : SlotLaw
unfolding hart_row
slot_law k h n stage c e = cell_in_slot k h n stage c (in_table (cell_at k h n (hart_at k h n)) 5 stage c e)

pub one_slot : (n stage : ℕ) → IsSlot 0 n stage → IsSlot 1 n stage → ⊥
one_slot n stage first second = zero_one (sym first.parity ∙ second.parity) where
  zero_one : ◌≡◌ {A = ℕ} 0 1 → ⊥
  zero_one e = absurd (omega (arith, e))

pub apart_law : ApartLaw
apart_law a b n stage c d e f = one_slot n stage (slot_law a 0 n stage c e) (slot_law b 1 n stage d f)
