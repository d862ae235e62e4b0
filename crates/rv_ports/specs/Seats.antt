-- What a row shows the modules: its cells, and what they read before the row's writes (this project's choice). `row` is the row, `earlier` are those before it, the newest first.
use Rattle.std.specs.Prelude.{ℕ, suc, ◌+◌, List, [], ◌∷◌, drop, Option, Some, None, Bool, true, false, ◌&&◌, not, if◌then◌else◌, ◌==◌, is_some, slice_get, slice_index, unwrap_or}
use Rattle.ix_eval.specs.declared.access.Access.{Access}
use Rattle.ix_eval.specs.Tables.{table}
use Rattle.ix_plan.specs.Units.{Slots, unit_written, frozen_with}
use Rattle.rv_seq.specs.Memory.{peeked}
use Rattle.rv_isa.specs.Fields.{rs1_of, rs2_of}
use Rattle.rv_lawful.specs.Settings.{Setting, stages_of, tailed, is_tail}
use Rattle.rv_lawful.specs.Outstanding.{units_after, architecture}
use Rattle.rv_lawful.specs.Forwarding.{x_written, writes_x, reach_of, is_there}
use Rattle.rv_lawful.specs.Future.{cell_in, future_file}
use Rattle.rv_trace.specs.declared.row.Cell.{Cell}
use Rattle.rv_trace.specs.declared.row.Row.{Row}
use Rattle.rv_trace.specs.declared.row.Hold.{Hold}
use Rattle.rv_trace.specs.declared.row.Hold.TheVariants.{Operand, Board, Custom, Late, Trap, Drain, Wait, StoreAhead, Tail, UnitFull, Port, Behind}
use Rattle.rv_trace.specs.Trace.{has_serial, place}
use Rattle.rv_trace.specs.RowParts.{leaves}
use Rattle.rv_ports.specs.declared.shown.Seat.{Seat}
use Rattle.rv_ports.specs.declared.shown.Shown.{Shown}
use Rattle.rv_ports.specs.Drives.{Drives}

-- the holds under which a cell waits for what it reads: its inputs are 0
abbrev pub is_silent : Option Hold → Bool
is_silent None = false
is_silent (Some (Operand r j)) = true
is_silent (Some (Board t j)) = true
is_silent (Some (Custom r j)) = true
is_silent (Some (Late j)) = true
is_silent (Some Trap) = false
is_silent (Some (Drain j)) = false
is_silent (Some (Wait left)) = true
is_silent (Some (StoreAhead j)) = true
is_silent (Some (Tail left)) = false
is_silent (Some (UnitFull u)) = false
is_silent (Some (Port j)) = false
is_silent (Some Behind) = false

-- the cell leaves its stage; the one that stops the run, at EX of a row with a stop, does not
abbrev pub goes : Setting → Row → ℕ → Cell → Bool
goes k row stage c = is_some (leaves row (Some c)) && not ((stage == k.shape.ex) && is_some row.stop)

-- the time of a cell: its stage; in the last stage with the count of earlier rows in which it was held by Tail, as only a cell with mode Tight is
abbrev pub time_of : Setting → List Row → ℕ → Cell → ℕ
time_of k earlier stage c = if suc stage == k.shape.stages then stage + tailed k earlier c.serial else stage

-- what the cell of this stage passes on for the x register r: what the step at its place writes to it in its own body, where that is there by the end of the row
abbrev pub passed : Drives → List Row → Row → ℕ → ℕ → Cell → Option ℕ
passed d earlier row r stage c =
    if writes_x (d.setting.asks c.word) r && is_there d.setting.shape stage (reach_of stage c.hold) (d.setting.asks c.word) then x_written (d.setting.course.answer (place (row ∷ earlier) c.serial))
    else None

-- what the youngest of these cells that is not flushed and passes on something does, the first of them in this stage, else this value
abbrev pub forwarded : Drives → List Row → Row → ℕ → ℕ → List (Option Cell) → ℕ → ℕ
forwarded d earlier row r stage [] value = value
forwarded d earlier row r stage (None ∷ older) value = forwarded d earlier row r (suc stage) older value
forwarded d earlier row r stage (Some c ∷ older) value =
    if has_serial row.flushed c.serial then forwarded d earlier row r (suc stage) older value
    else unwrap_or (passed d earlier row r stage c) (forwarded d earlier row r (suc stage) older value)

-- an x register of the register file, which is written at the end of a row
abbrev pub filed : Drives → List Row → ℕ → ℕ
filed d earlier r = slice_index (architecture d.extension d.setting earlier).x r

-- an x register as an operand of the cell of this stage: on a core that forwards what an older cell passes on, else that of the register file
abbrev pub operand_of : Drives → List Row → Row → ℕ → ℕ → ℕ
operand_of d earlier row stage r =
    if d.setting.shape.forward then forwarded d earlier row r (suc stage) (drop (suc stage) (stages_of d.setting row)) (filed d earlier r) else filed d earlier r

-- what a cell shows in this stage
abbrev pub seat_of : Drives → List Row → Row → ℕ → Cell → Seat
seat_of d earlier row stage c =
    record {
      behaviour = d.number c.word;
      time = time_of d.setting earlier stage c;
      at = c.at;
      word = c.word;
      first = operand_of d earlier row stage (rs1_of c.word);
      second = operand_of d earlier row stage (rs2_of c.word);
      silent = is_silent c.hold;
      tails = is_tail c.hold;
      moves = goes d.setting row stage c;
    }

-- what a stage shows, where it has a cell
abbrev pub seat_in : Drives → List Row → Row → ℕ → Option Cell → Option Seat
seat_in d earlier row stage None = None
seat_in d earlier row stage (Some c) = Some (seat_of d earlier row stage c)

-- the cell of this stage of the core, where one is there
abbrev pub cell_at : Setting → Row → ℕ → Option Cell
cell_at k row stage = cell_in (slice_get (stages_of k row) stage)

-- what lies in memory where there is a load: its bytes, the lowest first
abbrev pub loaded : List ℕ → Option Access → ℕ
loaded memory None = 0
loaded memory (Some a) = peeked memory a.at a.bytes

-- what the cell of MEM loads, by the step at its place
abbrev pub datum_of : Drives → List Row → Row → Option Cell → ℕ
datum_of d earlier row None = 0
datum_of d earlier row (Some c) = loaded (architecture d.extension d.setting earlier).mem (d.loads (place (row ∷ earlier) c.serial))

-- is the unit with this number frozen, where there is one?
abbrev pub is_frozen : ℕ → Option Slots → Option (ℕ × ℕ) → Bool
is_frozen u None written = false
is_frozen u (Some slots) written = frozen_with u slots written

-- is it frozen, by the units as they stand in the row?
abbrev pub freezes : List Slots → ℕ → Bool
freezes units u = is_frozen u (slice_get units u) (unit_written units)

-- what the row shows
unfoldable pub shown_by : Drives → List Row → Row → Shown
shown_by d earlier row =
    record {
      seats = table (λ stage. seat_in d earlier row stage (cell_at d.setting row stage)) 5;
      custom = future_file d.setting earlier;
      datum = datum_of d earlier row (cell_at d.setting row d.setting.shape.mem);
      frozen = table (freezes (units_after d.setting earlier)) 64;
    }
