-- What is tested of the stop of a row.
use Rattle.std.specs.Prelude.{◌≡◌, ℕ, ◌-◌, ◌&&◌, ◌||◌, List, take, Option, Some, None, Bool, true, false, if◌then◌else◌, is_none}
use Rattle.rv_core.specs.declared.Shape.{Shape}
use Rattle.rv_seq.specs.declared.commit.Stop.{Stop}
use Rattle.rv_seq.specs.declared.commit.Stop.TheVariants.{Fetch}
use Rattle.rv_seq.specs.Steps.{word_at}
use Rattle.rv_trace.specs.declared.row.Cell.{Cell}
use Rattle.rv_trace.specs.declared.row.Row.{Row}
use Rattle.rv_trace.specs.declared.row.Hold.{Hold}
use Rattle.rv_trace.specs.Trace.{has_serial}
use Rattle.rv_trace.specs.RowParts.{unless}
use Rattle.rv_lawful.specs.Settings.{Setting, Stands}
use Rattle.rv_rows.specs.Kinds.{OwnMarked}
use Rattle.rv_rows.specs.declared.known.Known.{Known}
use Rattle.rv_marks.specs.Marks.{cells_in, cell_at}
use Rattle.rv_marks.specs.Turns.{all_flushed}

-- the stop that a cell of EX makes
abbrev pub own_stop : Option Cell → Bool → Option Stop → Option Stop
own_stop None held stop = None
own_stop (Some c) held stop = if held then None else stop

abbrev pub last_gone : Row → Option Cell → Bool
last_gone row None = true
last_gone row (Some c) = has_serial row.flushed c.serial || is_none c.hold

-- after the row no stage has a cell
abbrev pub empty_after : Shape → Row → Bool
empty_after shape row = all_flushed row (take (shape.stages - 1) (cells_in shape row)) && last_gone row (cell_at shape row (shape.stages - 1))

-- nothing is left, nothing is outstanding, and the address that is fetched next has no word
abbrev pub fetch_stops : Shape → Known → List ℕ → Row → Bool
fetch_stops shape known image row = empty_after shape row && known.settled && is_none (word_at image (unless row.redirect known.plain))

abbrev pub due_of : Option Stop → Bool → Option Stop
due_of None true = Some Fetch
due_of None false = None
due_of (Some stop) fetch = Some stop

-- the stop that the row is to have
abbrev pub due_stop : Shape → Known → Bool → List ℕ → Row → Option Stop
due_stop shape known held image row = due_of (own_stop (cell_at shape row shape.ex) held known.stop) (fetch_stops shape known image row)
