-- The states behind rows (this project's choice).
use Rattle.std.specs.Prelude.{◌≡◌, ℕ, List, ◌∷◌, Option, Some, None}
use Rattle.ix_bits.specs.declared.number.Bits.{Bits}
use Rattle.ix_extension.specs.Extensions.{ExtensionTree}
use Rattle.rv_seq.specs.WordEffects.{AreWide}
use Rattle.rv_seq.specs.declared.arch.Arch.{Arch}
use Rattle.rv_seq.specs.declared.commit.Commit.{Commit}
use Rattle.rv_seq.specs.Commits.{applied}
use Rattle.rv_seq.specs.Interrupts.{is_return, resumed}
use Rattle.rv_seq.specs.Runs.{Entries}
use Rattle.rv_seq.specs.Sound.{IsSound}
use Rattle.rv_tried.specs.Parts.{native}
use Rattle.rv_tried.specs.Whole.{AreBlocksWide}
use Rattle.rv_trace.specs.declared.row.Cell.{Cell}
use Rattle.rv_trace.specs.declared.row.Row.{Row}
use Rattle.rv_trace.specs.Trace.{place, retirements}
use Rattle.rv_lawful.specs.Settings.{Setting, jump_with, course_of}
use Rattle.rv_lawful.specs.Outstanding.{architecture}
use Rattle.rv_lawful.specs.Future.{early_after, late_after, leaves_execute, future_file}
use Rattle.rv_past.specs.declared.due.Due.{Due}
use Rattle.rv_past.specs.Due.{IsDue}
use Rattle.rv_past.specs.declared.past.Past.{Past}

-- the architectural state after these rows and their future file, each value of the width of its register
pub record IsPast (x : ExtensionTree) (k : Setting) (rows : List Row) (past : Past) : Type 0 where
  pub arch : past.arch ≡ architecture x k rows
  pub file : past.file ≡ future_file k rows
  pub wide : AreWide x past.file

-- the always-blocks jump where the setting says, whatever the memory holds
abbrev pub JumpsSo : ExtensionTree → Setting → Type 0
JumpsSo x k = (file : List Bits) (at word : ℕ) (memory : List ℕ) → jump_with x file memory at word ≡ k.jump file at word

-- the step at a place of the run, with what is asked of the instruction of this word, and a sound answer
pub record IsSoundStep (x : ExtensionTree) (k : Setting) (p word : ℕ) (due : Due) : Type 0 where
  pub step : IsDue k p due
  pub asks : due.asks ≡ k.asks word
  pub sound : IsSound x due.step.answer
  pub wide : AreBlocksWide x due.step.blocks

-- it is the step of what the row retires, where it retires something
abbrev pub IsRetiredStep : ExtensionTree → Setting → List Row → Row → Due → Type 0
IsRetiredStep x k earlier row due = (s : ℕ) (c : Commit) → row.retired ≡ Some (s, c) → IsSoundStep x k (retirements earlier) c.word due

-- it is the step of the cell that leaves EX in the row, where one does
abbrev pub IsExecutedStep : ExtensionTree → Setting → List Row → Row → Due → Type 0
IsExecutedStep x k earlier row due = (c : Cell) → leaves_execute k row ≡ Some c → IsSoundStep x k (place (row ∷ earlier) c.serial) c.word due

-- the steps of each run are sound
pub record SoundSteps : Type 0 where
  pub sound : (x : ExtensionTree) (image : List ℕ) (e : Option Entries) (p : ℕ) → IsSound x ((course_of x image e).answer p)
  pub wide : (x : ExtensionTree) (image : List ℕ) (e : Option Entries) (p : ℕ) → AreBlocksWide x ((course_of x image e).blocks p)

-- the state behind what is retired, of which this is the step
abbrev pub retired_one : ExtensionTree → Due → Commit → Arch → Arch
retired_one x due c s = resumed (is_return x c.word) (applied (native due.asks due.step.blocks c) s)

abbrev pub retired_by : ExtensionTree → Due → Option (ℕ × Commit) → Arch → Arch
retired_by x due None s = s
retired_by x due (Some r) s = retired_one x due r.1 s

-- the future file behind what it writes late
abbrev pub late_by : Due → Option (ℕ × Commit) → List Bits → List Bits
late_by due None file = file
late_by due (Some r) file = late_after due.asks due.step.own due.step.answer file

-- the future file behind a cell that leaves EX, where one does, of which this is the step
abbrev pub early_by : Due → Option Cell → List Bits → List Bits
early_by due None file = file
early_by due (Some c) file = early_after due.asks due.step.blocks due.step.answer file
