-- What each record of a step keeps: widths of custom registers, and a store within the memory.
use Rattle.std.specs.Prelude.{◌≡◌, ℕ, List, get_or}
use Rattle.ix_bits.specs.declared.number.Bits.{Bits}
use Rattle.ix_extension.specs.Extensions.{ExtensionTree}
use Rattle.ix_eval.specs.Evaluated.{type_of_custom}
use Rattle.rv_seq.specs.declared.commit.Slot.{Slot}
use Rattle.rv_seq.specs.declared.commit.Slot.TheVariants.{Absent, Now, Later}
use Rattle.rv_seq.specs.declared.commit.Commit.{Commit}
use Rattle.rv_seq.specs.declared.answer.StepAnswer.{StepAnswer}
use Rattle.rv_seq.specs.declared.answer.StepAnswer.TheVariants.{Done, Stopped}
use Rattle.rv_seq.specs.Commits.{IsStoredInside}

-- what is written now has this width
abbrev pub IsNowWide : ℕ → Slot Bits → Type 0
IsNowWide width Absent = Unit {0}
IsNowWide width (Now b) = b.width ≡ width
IsNowWide width Later = Unit {0}

pub record IsSoundCommit (x : ExtensionTree) (c : Commit) : Type 0 where
  pub wide : (r : ℕ) → IsNowWide (type_of_custom x r).width (get_or c.custom r Absent)
  pub inside : IsStoredInside c.store

abbrev pub IsSound : ExtensionTree → StepAnswer → Type 0
IsSound x (Done c) = IsSoundCommit x c
IsSound x (Stopped stop) = Unit {0}
