-- What is tested of the successors that a row settles.
use Rattle.std.specs.Prelude.{ℕ, ◌-◌, ◌==◌, ◌&&◌, ◌||◌, not, List, [], ◌∷◌, take, Option, Some, None, Bool, true, false, if◌then◌else◌, is_some, is_none, slice_get}
use Rattle.rv_asks.specs.declared.asks.Asks.{Asks}
use Rattle.rv_core.specs.declared.Shape.{Shape}
use Rattle.rv_trace.specs.declared.row.Cell.{Cell}
use Rattle.rv_trace.specs.declared.row.Row.{Row}
use Rattle.rv_trace.specs.Trace.{has_serial}
use Rattle.rv_trace.specs.RowParts.{leaves}
use Rattle.rv_rows.specs.Kinds.{is_of_cell}
use Rattle.rv_rows.specs.declared.known.Known.{Known}
use Rattle.rv_marks.specs.declared.succeeding.Turn.{Turn}
use Rattle.rv_marks.specs.Marks.{cells_in, cell_at, lacks, same_serial}

-- does the instruction of a stage's cell write the pc late?
abbrev pub late_in : Option (Option Asks) → Bool
late_in None = false
late_in (Some None) = false
late_in (Some (Some a)) = a.late

-- the cell of EX settles its successor, and that of the last stage

abbrev pub in_execute : Shape → Known → Row → Bool
in_execute shape known row = is_some (leaves row (cell_at shape row shape.ex)) && not (late_in (slice_get known.asks shape.ex)) && not (is_of_cell row.stop) && is_none known.stop

abbrev pub in_last : Shape → Known → Row → Bool
in_last shape known row = is_some (leaves row (cell_at shape row (shape.stages - 1))) && late_in (slice_get known.asks (shape.stages - 1))

abbrev pub turn_if : Bool → ℕ → ℕ → Option Turn
turn_if true stage next = Some (record { stage = stage; next = next })
turn_if false stage next = None

-- the last of these cells, or this one where there is none
abbrev pub nearest_from : Option Cell → List (Option Cell) → Option Cell
nearest_from found [] = found
nearest_from found (None ∷ rest) = nearest_from found rest
nearest_from found (Some c ∷ rest) = nearest_from (Some c) rest

abbrev pub all_flushed : Row → List (Option Cell) → Bool
all_flushed row [] = true
all_flushed row (None ∷ rest) = all_flushed row rest
all_flushed row (Some c ∷ rest) = has_serial row.flushed c.serial && all_flushed row rest

-- the row flushes and names what a settled successor asks for, with these younger cells and the next of them

abbrev pub settled_right : Turn → ℕ → Row → List (Option Cell) → Option Cell → Bool
settled_right t plain row younger None = same_serial row.redirect (if t.next == plain then None else Some t.next)
settled_right t plain row younger (Some d) = (d.at == t.next) || (all_flushed row younger && same_serial row.redirect (Some t.next))

abbrev pub turn_right : Option Turn → ℕ → Row → List (Option Cell) → Bool
turn_right None plain row cells = true
turn_right (Some t) plain row cells = settled_right t plain row (take t.stage cells) (nearest_from None (take t.stage cells))

-- a mismatch, and what it flushes

abbrev pub is_turned : Option Cell → ℕ → Bool
is_turned None next = false
is_turned (Some d) next = not (d.at == next)

abbrev pub struck : Option Turn → List (Option Cell) → ℕ → Bool
struck None cells s = false
struck (Some t) cells s = is_turned (nearest_from None (take t.stage cells)) t.next && not (lacks s (take t.stage cells))

abbrev pub flushed_by : Option Turn → Option Turn → List (Option Cell) → List (Option ℕ) → Bool
flushed_by e l cells [] = true
flushed_by e l cells (None ∷ rest) = flushed_by e l cells rest
flushed_by e l cells (Some s ∷ rest) = (struck e cells s || struck l cells s) && flushed_by e l cells rest

-- which address is named

abbrev pub is_open : Option Cell → ℕ → Bool
is_open None next = true
is_open (Some d) next = not (d.at == next)

abbrev pub names_it : Option Turn → List (Option Cell) → ℕ → Bool
names_it None cells a = false
names_it (Some t) cells a = (t.next == a) && is_open (nearest_from None (take t.stage cells)) t.next

abbrev pub named_by : Option Turn → Option Turn → List (Option Cell) → Option ℕ → Bool
named_by e l cells None = true
named_by e l cells (Some a) = names_it e cells a || names_it l cells a

abbrev pub execute_turn : Shape → Known → Row → Option Turn
execute_turn shape known row = turn_if (in_execute shape known row) shape.ex known.behind_execute

abbrev pub last_turn : Shape → Known → Row → Option Turn
last_turn shape known row = turn_if (in_last shape known row) (shape.stages - 1) known.behind_last

abbrev pub succeeds_as : Shape → Known → Row → Bool
succeeds_as shape known row =
    turn_right (execute_turn shape known row) known.plain row (cells_in shape row)
    && turn_right (last_turn shape known row) known.plain row (cells_in shape row)
    && flushed_by (execute_turn shape known row) (last_turn shape known row) (cells_in shape row) row.flushed
    && named_by (execute_turn shape known row) (last_turn shape known row) (cells_in shape row) row.redirect
