-- What is known of a hart's cells in each row, and of what it has outstanding (this project's choice).
use Rattle.std.specs.Prelude.{◌≡◌, ℕ, suc, ◌+◌, ◌-◌, ◌^◌, ◌<◌, ◌≤◌, List, [], ◌∷◌, length, take, drop, slice_get, Option, Some, None, false}
use Rattle.ix_plan.specs.declared.design.Design.{Design}
use Rattle.ix_plan.specs.Units.{Slots, unit_written, frozen_with}
use Rattle.ix_standing.specs.Standing.{Stands}
use Rattle.rv_lawful.specs.Settings.{Setting}
use Rattle.rv_seq.specs.declared.answer.StepAnswer.TheVariants.{Done}
use Rattle.rv_seq.specs.declared.commit.Commit.{Commit}
use Rattle.rv_seq.specs.Steps.{word_at}
use Rattle.rv_harts.specs.BarrelLaws.{PrefixLaw, StateLaw}
use Rattle.rv_harts.specs.BarrelRows.{hart_setting}
use Rattle.rv_harts.specs.declared.event.EventAt.{EventAt}
use Rattle.rv_harts.specs.Events.{standing}
use Rattle.rv_harts.specs.HartRows.{stages_in, event_in, last_in, owed_after, hart_at}
use Rattle.rv_harts.specs.HartStates.{retirements, outstanding_targets}
use Rattle.rv_harts.specs.Harts.{Fetched}
use Rattle.rv_harts.specs.Turns.{asked, unit_of}

-- the place of each of these is the count of retirements, and of the older ones among them
abbrev pub ArePlaced : ℕ → List (Option Fetched) → Type 0
ArePlaced retired [] = Unit
ArePlaced retired (None ∷ older) = ArePlaced retired older
ArePlaced retired (Some c ∷ older) = (c.place ≡ retired + length (standing older)) × ArePlaced retired older

-- the step at its place stops nothing, and is that of its word
abbrev pub IsGoingOn : Setting → Fetched → Type 0
IsGoingOn k c = (d : Commit) × (k.course.answer c.place ≡ Done d) × (d.word ≡ c.word)

-- what is known of hart h before and in row n
pub record KnownHart (k : Setting) (h n : ℕ) : Type 0 where
  pub placed : ArePlaced (hart_at k h n).retired (stages_in k h n (hart_at k h n))
  pub counted : (hart_at k h n).retired ≡ retirements k h n
  pub fetched : (hart_at k h n).next ≤ n
  pub tried : (stage : ℕ) (c : Fetched) → k.shape.ex < stage → slice_get (stages_in k h n (hart_at k h n)) stage ≡ Some (Some c) → IsGoingOn k c
  pub alone : (c : Fetched) (u : ℕ) → last_in (stages_in k h n (hart_at k h n)) ≡ Some c → (asked k c).unit ≡ Some u → unit_of k (Some u) (hart_at k h n).owed ≡ None
  pub inside : (c : Fetched) (u : ℕ) → last_in (stages_in k h n (hart_at k h n)) ≡ Some c → (asked k c).unit ≡ Some u → u < length k.units
  pub few : length (owed_after k h n (hart_at k h n)) ≤ length k.units
  -- above EX nothing stands below a cell whose event is there: it would have waited for it
  pub settled : (e : EventAt) → event_in k h n (hart_at k h n) ≡ Some e → k.shape.ex < e.stage → standing (take (e.stage - suc k.shape.ex) (drop (suc k.shape.ex) (stages_in k h n (hart_at k h n)))) ≡ []
  -- the unit of what retires is not frozen
  pub enters : (c : Fetched) (u : ℕ) (slots : Slots) → last_in (stages_in k h n (hart_at k h n)) ≡ Some c → (asked k c).unit ≡ Some u → slice_get (hart_at k h n).units u ≡ Some slots → frozen_with u slots (unit_written (hart_at k h n).units) ≡ false

-- so much is known of each hart of a design that stands
abbrev pub KnownLaw : Type 0
KnownLaw = (d : Design) (image : List ℕ) (h n : ℕ) → Stands d → h < 2 → KnownHart (hart_setting d image) h n

-- what a hart retires is a prefix of the run of its image
abbrev pub PrefixesLaw : Type 0
PrefixesLaw = (d : Design) (image : List ℕ) → Stands d → PrefixLaw d image

-- what stands in the image are words of 32 bits
abbrev pub AreWords : List ℕ → Type 0
AreWords image = (at word : ℕ) → word_at image at ≡ Some word → word < 2 ^ 32

-- its state with the outstanding writes applied is that of the run
abbrev pub StatesLaw : Type 0
StatesLaw = (d : Design) (image : List ℕ) → Stands d → AreWords image → StateLaw d image

-- no more targets are outstanding than there are registers
abbrev pub FewLaw : Type 0
FewLaw = (d : Design) (image : List ℕ) (h n : ℕ) → Stands d → h < 2 → length (outstanding_targets (hart_setting d image) h n) ≤ 48
