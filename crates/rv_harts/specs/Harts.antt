-- What a hart of a barrel has before a row (this project's choice). It knows its own image alone.
use Rattle.std.specs.Prelude.{ℕ, ◌-◌, List, [], replicate, Option, None, Bool, false}
use Rattle.ix_plan.specs.Units.{Slots}
use Rattle.rv_lawful.specs.Settings.{Setting}

-- what a hart has fetched: its serial, its address, its word, and its place in the run of the hart's image, which it has unless it is flushed
pub record Fetched : Type 0 where
  pub serial : ℕ
  pub at : ℕ
  pub word : ℕ
  pub place : ℕ

-- what stands in the stages above stage 0, stage 1 first; the next fetch address and serial; how many have retired; what is retired and not written, the oldest first; the units; and
-- whether it has stopped
pub record Hart : Type 0 where
  pub above : List (Option Fetched)
  pub fetch : ℕ
  pub next : ℕ
  pub retired : ℕ
  pub owed : List Fetched
  pub units : List Slots
  pub stopped : Bool

-- before the first row
abbrev pub first_hart : Setting → Hart
first_hart k =
    record {
      above = replicate (k.shape.stages - 1) None;
      fetch = 0;
      next = 0;
      retired = 0;
      owed = [];
      units = k.units;
      stopped = false;
    }
