-- The row of which a text shows this, behind earlier rows (this project's choice): words are the image's, and what is retired or written is what the run does there.
use Rattle.std.specs.Prelude.{ℕ, ◌-◌, List, ◌++◌, map, replicate, Option, Some, None, Bool, if◌then◌else◌}
use Rattle.rv_seq.specs.declared.answer.StepAnswer.{StepAnswer}
use Rattle.rv_seq.specs.declared.answer.StepAnswer.TheVariants.{Done, Stopped}
use Rattle.rv_seq.specs.declared.commit.Commit.{Commit}
use Rattle.rv_seq.specs.declared.commit.Slot.TheVariants.{Absent}
use Rattle.rv_seq.specs.Steps.{word_at}
use Rattle.rv_tried.specs.declared.parts.Spawned.{Spawned}
use Rattle.rv_tried.specs.Parts.{shown, spawned}
use Rattle.rv_trace.specs.declared.row.Cell.{Cell}
use Rattle.rv_trace.specs.declared.row.Row.{Row}
use Rattle.rv_trace.specs.Trace.{place, retirements}
use Rattle.rv_trace.specs.RowParts.{in_five}
use Rattle.rv_lawful.specs.Settings.{Setting}
use Rattle.rv_lawful.specs.Outstanding.{Written, is_serial, units_after}
use Rattle.rv_lawful.specs.LawfulTrace.{serial_in}
use Rattle.ix_plan.specs.Units.{unit_written}
use Rattle.rv_shown.specs.declared.shown.ShownCell.{ShownCell}
use Rattle.rv_shown.specs.Shown.{Shown}

-- a word that was found, and else 0
abbrev pub word_or_zero : Option ℕ → ℕ
word_or_zero None = 0
word_or_zero (Some word) = word

-- a cell has the image's word at its address
abbrev pub cell_made : Setting → Option ShownCell → Option Cell
cell_made k None = None
cell_made k (Some c) = Some (record { serial = c.serial; at = c.at; word = word_or_zero (word_at k.image c.at); hold = c.hold })

-- a record of nothing
abbrev pub no_commit : Commit
no_commit = record { at = 0; word = 0; rd_index = 0; rd = Absent; custom = replicate 16 Absent; store = None; next = 0 }

-- the record of a step, with what its `spawn` body writes as coming later; a stop has none
abbrev pub record_of : Setting → StepAnswer → Commit
record_of k (Done c) = shown (k.asks c.word) c
record_of k (Stopped stop) = no_commit

-- what is retired is the record of the step behind the retirements so far
abbrev pub retired_made : Setting → List Row → Option ℕ → Option (ℕ × Commit)
retired_made k earlier None = None
retired_made k earlier (Some s) = Some (s, record_of k (k.course.answer (retirements earlier)))

-- what is written for a serial by these writes of a `spawn` body
abbrev pub writes : ℕ → Spawned → Written
writes s w = (s, w.rd_index, w.rd, w.custom)

-- a serial that writes nothing
abbrev pub no_writes : ℕ → Written
no_writes s = (s, 0, Absent, replicate 16 Absent)

-- what the `spawn` body of a step writes, where the instruction itself writes these custom registers; a stop writes nothing
abbrev pub written_of : Setting → List Bool → ℕ → StepAnswer → Written
written_of k own s (Done c) = writes s (spawned (k.asks c.word) own c)
written_of k own s (Stopped stop) = no_writes s

-- what is written for the serial that is due is what the run writes at its place
abbrev pub written_made : Setting → List Row → Option ℕ → Option Written
written_made k earlier None = None
written_made k earlier (Some s) =
    Some (if is_serial (serial_in (unit_written (units_after k earlier))) s then written_of k (k.course.own (place earlier s)) s (k.course.answer (place earlier s)) else no_writes s)

-- the row of which this is shown
abbrev pub row_of : Setting → List Row → Shown → Row
row_of k earlier s =
    record {
      cells = map (cell_made k) s.cells ++ replicate (5 - k.shape.stages) None;
      retired = retired_made k earlier s.retired;
      written = written_made k earlier s.written;
      flushed = in_five s.flushed;
      redirect = s.redirect;
      taken = None;
      stop = s.stop;
    }
