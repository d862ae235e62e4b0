-- What of a run a row is made of, and what is sound of it (this project's choice).
use Rattle.std.specs.Prelude.{◌≡◌, ℕ, List, get_or, Option, Some, None, Bool, if◌then◌else◌, ◌==◌}
use Rattle.ix_extension.specs.Extensions.{ExtensionTree}
use Rattle.ix_eval.specs.Evaluated.{type_of_custom}
use Rattle.ix_plan.specs.Units.{unit_written}
use Rattle.rv_asks.specs.declared.asks.Asks.{Asks}
use Rattle.rv_seq.specs.declared.answer.StepAnswer.{StepAnswer}
use Rattle.rv_seq.specs.declared.answer.StepAnswer.TheVariants.{Done, Stopped}
use Rattle.rv_seq.specs.declared.commit.Commit.{Commit}
use Rattle.rv_seq.specs.declared.commit.Slot.TheVariants.{Absent}
use Rattle.rv_seq.specs.Commits.{IsStoredInside}
use Rattle.rv_seq.specs.Sound.{IsNowWide}
use Rattle.rv_seq.specs.Steps.{word_at}
use Rattle.rv_tried.specs.Parts.{shown, spawned}
use Rattle.rv_trace.specs.declared.row.Cell.{Cell}
use Rattle.rv_trace.specs.declared.row.Row.{Row}
use Rattle.rv_trace.specs.Trace.{place}
use Rattle.rv_lawful.specs.Settings.{Setting}
use Rattle.rv_lawful.specs.Outstanding.{Written, units_after}
use Rattle.rv_lawful.specs.LawfulTrace.{serial_in}
use Rattle.rv_shown.specs.declared.shown.ShownCell.{ShownCell}
use Rattle.rv_rows.specs.Made.{word_or_zero, no_commit, writes, no_writes}
use Rattle.rv_past.specs.declared.due.Due.{Due}
use Rattle.rv_past.specs.Due.{IsDue}

-- what is written: the serial that the units write behind these rows, with the step at its place
abbrev pub IsWriting : Setting → List Row → Option (ℕ × Due) → Type 0
IsWriting k earlier None = serial_in (unit_written (units_after k earlier)) ≡ None
IsWriting k earlier (Some w) = (serial_in (unit_written (units_after k earlier)) ≡ Some w.0) × IsDue k (place earlier w.0) w.1

-- a cell with the word that this image has at its address
abbrev pub cell_from : List ℕ → Option ShownCell → Option Cell
cell_from image None = None
cell_from image (Some c) = Some (record { serial = c.serial; at = c.at; word = word_or_zero (word_at image c.at); hold = c.hold })

-- the record of a step as its retirement shows it, of whose instruction this is asked
abbrev pub record_from : Asks → StepAnswer → Commit
record_from a (Done c) = shown a c
record_from a (Stopped stop) = no_commit

-- what its `spawn` body writes
abbrev pub written_from : Asks → List Bool → ℕ → StepAnswer → Written
written_from a own s (Done c) = writes s (spawned a own c)
written_from a own s (Stopped stop) = no_writes s

-- what is written for a serial, of which this is due
abbrev pub written_with : Option (ℕ × Due) → ℕ → Written
written_with None s = no_writes s
written_with (Some w) s = if w.0 == s then written_from w.1.asks w.1.step.own s w.1.step.answer else no_writes s

-- what is retired, and what is written, where a serial is
abbrev pub retired_from : Due → Option ℕ → Option (ℕ × Commit)
retired_from next None = None
retired_from next (Some s) = Some (s, record_from next.asks next.step.answer)

abbrev pub written_where : Option (ℕ × Due) → Option ℕ → Option Written
written_where writing None = None
written_where writing (Some s) = Some (written_with writing s)

-- a retirement with these writes, at address 0 with a word of 0
abbrev pub retiring_with : Written → ℕ × Commit
retiring_with w = (w.0, record { at = 0; word = 0; rd_index = w.1; rd = w.2; custom = w.3; store = None; next = 4 })

-- what a row retires stores within the memory
abbrev pub IsStored : Option (ℕ × Commit) → Type 0
IsStored None = Unit {0}
IsStored (Some r) = IsStoredInside r.1.store

-- what a unit writes to custom registers has their widths
abbrev pub IsWrittenWide : ExtensionTree → Option Written → Type 0
IsWrittenWide x None = Unit {0}
IsWrittenWide x (Some w) = (r : ℕ) → IsNowWide (type_of_custom x r).width (get_or w.3 r Absent)
