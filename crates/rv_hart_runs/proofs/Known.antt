-- What is known of the cells of a hart that goes on, stage by stage.
use Rattle.std.proofs.Common.{◌≡◌, ℕ, suc, ◌+◌, ◌<◌, List, [], ◌∷◌, length, Option, Some, None, Bool, false}
use Rattle.std.specs.Prelude.{if◌then◌else◌, is_some, replicate, slice_get}
use Rattle.ix_plan.specs.Units.{Slots}
use Rattle.rv_lawful.specs.Settings.{Setting}
use Rattle.rv_seq.specs.declared.answer.StepAnswer.TheVariants.{Done}
use Rattle.rv_seq.specs.declared.commit.Commit.{Commit}
use Rattle.rv_seq.specs.Steps.{word_at}
use Rattle.rv_unit.specs.Entries.{is_number}
use Rattle.rv_harts.specs.Harts.{Fetched}
use Rattle.rv_harts.specs.Turns.{asked}
use Rattle.rv_harts.specs.Events.{standing, successor}
use Rattle.rv_hart_runs.specs.HartRuns.{IsGoingOn}
use Rattle.rv_hart_runs.proofs.Free.{Free}

-- what the proofs ask of a setting: the run begins at address 0, a step is that of the word at its address, each unit is one of the design's, and nothing stands in any at first
pub record IsSound (k : Setting) : Type 0 where
  pub begins : k.course.pc 0 ≡ 0
  pub words : (p : ℕ) (d : Commit) → k.course.answer p ≡ Done d → word_at k.image (k.course.pc p) ≡ Some d.word
  pub below : (word u : ℕ) → (k.asks word).unit ≡ Some u → u < length k.units
  pub vacant : (u : ℕ) (slots : Slots) → slice_get k.units u ≡ Some slots → (n : ℕ) × (slots ≡ replicate n None)

abbrev pub is_late : Setting → Fetched → Bool
is_late k c = (asked k c).late

abbrev pub has_unit : Setting → ℕ → Fetched → Bool
has_unit k u c = is_number (asked k c).unit u

-- what is known of a cell past EX, where these are older, and these owed: no older one writes the pc late, its step goes on, and it is alone in its unit
pub record IsPast (k : Setting) (owed : List Fetched) (c : Fetched) (older : List Fetched) : Type 0 where
  pub early : Free (is_late k) older
  pub going : IsGoingOn k c
  pub unowed : (u : ℕ) → (asked k c).unit ≡ Some u → Free (has_unit k u) owed
  pub alone : (u : ℕ) → (asked k c).unit ≡ Some u → Free (has_unit k u) older

-- what is known of a cell in this stage, where so many have retired, and the next younger one, or else the next fetch, has this address
pub record IsCell (k : Setting) (owed : List Fetched) (retired near stage : ℕ) (c : Fetched) (older : List Fetched) : Type 0 where
  pub placed : c.place ≡ retired + length older
  pub worded : word_at k.image c.at ≡ Some c.word
  pub past : k.shape.ex < stage → IsPast k owed c older
  pub leads : k.shape.ex < stage → is_late k c ≡ false → near ≡ successor k c

-- and of those in some stages, of which the first is this one
abbrev pub AreCells : Setting → List Fetched → ℕ → ℕ → ℕ → List (Option Fetched) → Type 0
AreCells k owed retired near stage [] = near ≡ k.course.pc retired
AreCells k owed retired near stage (None ∷ older) = AreCells k owed retired near (suc stage) older
AreCells k owed retired near stage (Some c ∷ older) = IsCell k owed retired near stage c (standing older) × AreCells k owed retired c.at (suc stage) older

-- how many have retired when this one has
abbrev pub retired_after : ℕ → Option Fetched → ℕ
retired_after retired o = if is_some o then suc retired else retired
