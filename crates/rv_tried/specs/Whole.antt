-- The parts of a record are the whole of it, and have the widths of the extension.
use Rattle.std.specs.Prelude.{◌≡◌, ℕ, ◌<◌, List, get_or, Option, None, Bool, true, false}
use Rattle.ix_bits.specs.declared.number.Bits.{Bits}
use Rattle.ix_extension.specs.Extensions.{ExtensionTree}
use Rattle.ix_eval.specs.Evaluated.{type_of_custom}
use Rattle.ix_mean.specs.declared.evaluate.State.{State}
use Rattle.rv_seq.specs.declared.decoded.Decoded.{Decoded}
use Rattle.rv_seq.specs.declared.answer.StepAnswer.TheVariants.{Done}
use Rattle.rv_seq.specs.declared.commit.Commit.{Commit}
use Rattle.rv_seq.specs.declared.commit.Slot.TheVariants.{Absent, Now}
use Rattle.rv_seq.specs.Commits.{slot_of}
use Rattle.rv_seq.specs.Sound.{IsNowWide}
use Rattle.rv_tried.specs.Tried.{tried}

-- a custom register that the instruction itself does not write is written as the blocks write it; one that it writes has a value
pub record IsWhole (own : List Bool) (blocks : List (Option Bits)) (c : Commit) (r : ℕ) : Type 0 where
  pub others : get_or own r false ≡ false → get_or c.custom r Absent ≡ slot_of (get_or blocks r None)
  pub itself : get_or own r false ≡ true → (b : Bits) × (get_or c.custom r Absent ≡ Now b)

-- so is each record to which a word is tried
abbrev pub WholeLaw : Type 0
WholeLaw = (x : ExtensionTree) (i : State) (memory : List ℕ) (back : Option ℕ) (o : Option Decoded) (c : Commit) → (tried x i memory back o).answer ≡ Done c → (r : ℕ) → r < 16
    → IsWhole (tried x i memory back o).own (tried x i memory back o).blocks c r

-- what blocks write to custom registers has their widths
abbrev pub AreBlocksWide : ExtensionTree → List (Option Bits) → Type 0
AreBlocksWide x blocks = (r : ℕ) → IsNowWide (type_of_custom x r).width (slot_of (get_or blocks r None))

-- so has what the blocks write with each word
abbrev pub WideLaw : Type 0
WideLaw = (x : ExtensionTree) (i : State) (memory : List ℕ) (back : Option ℕ) (o : Option Decoded) → AreBlocksWide x (tried x i memory back o).blocks
