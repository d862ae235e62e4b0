-- The future file: the custom registers as a cell that comes to EX reads them (this project's choice). No two of the writes of one row are to the same register, so their order
-- in a row says nothing.
use Rattle.std.specs.Prelude.{ℕ, List, [], ◌∷◌, get_or, slice_get, Option, Some, None, Bool, false, ◌&&◌, ◌||◌, if◌then◌else◌, is_some}
use Rattle.ix_bits.specs.declared.number.Bits.{Bits}
use Rattle.ix_eval.specs.Tables.{table}
use Rattle.rv_asks.specs.declared.asks.Asks.{Asks}
use Rattle.rv_seq.specs.declared.answer.StepAnswer.{StepAnswer}
use Rattle.rv_seq.specs.declared.answer.StepAnswer.TheVariants.{Done, Stopped}
use Rattle.rv_seq.specs.declared.commit.Commit.{Commit}
use Rattle.rv_seq.specs.declared.commit.Slot.{Slot}
use Rattle.rv_seq.specs.declared.commit.Slot.TheVariants.{Absent}
use Rattle.rv_seq.specs.Commits.{slot_of, with_slot}
use Rattle.rv_seq.specs.States.{zero_bit}
use Rattle.rv_tried.specs.declared.parts.Spawned.{Spawned}
use Rattle.rv_trace.specs.declared.row.Cell.{Cell}
use Rattle.rv_trace.specs.declared.row.Row.{Row}
use Rattle.rv_trace.specs.Trace.{place, retirements}
use Rattle.rv_trace.specs.RowParts.{leaves}
use Rattle.rv_lawful.specs.Settings.{Setting, stages_of}
use Rattle.rv_lawful.specs.Outstanding.{Written, writes_of}

-- the instruction's own write of this register comes later than EX: by its time, or by `spawn`
abbrev pub is_pending : Asks → ℕ → Bool
is_pending a r = get_or a.late_customs r false || get_or a.spawned_customs r false

-- what a step writes to a custom register as its cell leaves EX, where the blocks write these: the blocks alone where its own write is still to come
abbrev pub early_write : Asks → List (Option Bits) → Commit → ℕ → Slot Bits
early_write a blocks c r = if is_pending a r then slot_of (get_or blocks r None) else get_or c.custom r Absent

-- what it writes late, where the instruction itself writes these
abbrev pub late_write : Asks → List Bool → Commit → ℕ → Slot Bits
late_write a own c r = if get_or a.late_customs r false && get_or own r false then get_or c.custom r Absent else Absent

-- the custom registers after these writes
abbrev pub with_writes : (ℕ → Slot Bits) → List Bits → List Bits
with_writes f file = table (λ r. with_slot (get_or file r zero_bit) (f r)) 16

-- after what a step writes as its cell leaves EX; a stop writes nothing
abbrev pub early_after : Asks → List (Option Bits) → StepAnswer → List Bits → List Bits
early_after a blocks (Done c) file = with_writes (early_write a blocks c) file
early_after a blocks (Stopped stop) file = file

-- after what it writes late
abbrev pub late_after : Asks → List Bool → StepAnswer → List Bits → List Bits
late_after a own (Done c) file = with_writes (late_write a own c) file
late_after a own (Stopped stop) file = file

-- after what a unit writes
abbrev pub spawned_after : Spawned → List Bits → List Bits
spawned_after w file = with_writes (λ r. get_or w.custom r Absent) file

-- the cell of this stage, where one is there
abbrev pub cell_in : Option (Option Cell) → Option Cell
cell_in None = None
cell_in (Some cell) = cell

-- of a cell, where its stage has one, the cell itself if it goes on
abbrev pub going_on : Row → Option Cell → Option Cell
going_on row None = None
going_on row (Some c) = if is_some (leaves row (Some c)) then Some c else None

-- the cell that leaves EX in the row, or stops the run there, which writes nothing
abbrev pub leaves_execute : Setting → Row → Option Cell
leaves_execute k row = going_on row (cell_in (slice_get (stages_of k row) k.shape.ex))

-- the file after a cell leaves EX, where one does, by the step at its place
abbrev pub after_executed : Setting → List Row → Option Cell → List Bits → List Bits
after_executed k rows None file = file
after_executed k rows (Some c) file = early_after (k.asks c.word) (k.course.blocks (place rows c.serial)) (k.course.answer (place rows c.serial)) file

-- the file after what a row retires, by the step at this place
abbrev pub after_late : Setting → ℕ → Option (ℕ × Commit) → List Bits → List Bits
after_late k p None file = file
after_late k p (Some (s, c)) file = late_after (k.asks c.word) (k.course.own p) (k.course.answer p) file

-- the file after what a unit writes in a row, if one does
abbrev pub after_unit : Option Written → List Bits → List Bits
after_unit None file = file
after_unit (Some w) file = spawned_after (writes_of w) file

-- the future file after these rows: at first the initial values, then in each row what a unit writes, what retires writes late, and what leaves EX writes there
unfoldable pub future_file : Setting → List Row → List Bits
future_file k [] = k.initial
future_file k (row ∷ earlier) =
    after_executed k (row ∷ earlier) (leaves_execute k row) (after_late k (retirements earlier) row.retired (after_unit row.written (future_file k earlier)))
