-- What is tested of a row.
use Rattle.std.specs.Prelude.{ℕ, ◌-◌, ◌==◌, ◌&&◌, ◌||◌, not, List, [], ◌∷◌, take, Option, Some, None, Bool, true, false, if◌then◌else◌, is_some, is_none, slice_get}
use Rattle.rv_core.specs.declared.Shape.{Shape}
use Rattle.rv_seq.specs.declared.commit.Commit.{Commit}
use Rattle.rv_trace.specs.declared.row.Cell.{Cell}
use Rattle.rv_trace.specs.declared.row.Row.{Row}
use Rattle.rv_trace.specs.Trace.{has_serial}
use Rattle.rv_seq.specs.Steps.{word_at}
use Rattle.rv_trace.specs.RowParts.{Name, name_of, stays, leaves, front, fetched}
use Rattle.rv_rows.specs.Kinds.{is_of_cell, with_cell, kept_back}

-- Names and stages

abbrev pub same_name : Option Name → Option Name → Bool
same_name None None = true
same_name None (Some m) = false
same_name (Some n) None = false
same_name (Some n) (Some m) = (n.0 == m.0) && (n.1 == m.1) && (n.2 == m.2)

-- the cell of a stage
abbrev pub cell_of : Option (Option Cell) → Option Cell
cell_of None = None
cell_of (Some c) = c

abbrev pub cells_in : Shape → Row → List (Option Cell)
cells_in shape row = take shape.stages row.cells

abbrev pub cell_at : Shape → Row → ℕ → Option Cell
cell_at shape row stage = cell_of (slice_get (cells_in shape row) stage)

-- Moves

abbrev pub in_stage : Option Name → Option Name → Option Name → Bool
in_stage None came now = same_name now came
in_stage (Some n) None now = same_name now (Some n)
in_stage (Some n) (Some m) now = false

abbrev pub moved_into : Row → Option Name → List (Option Cell) → List (Option Cell) → Bool
moved_into row came [] [] = true
moved_into row came [] (now ∷ later) = false
moved_into row came (was ∷ before) [] = false
moved_into row came (was ∷ before) (now ∷ later) = in_stage (stays row was) came (name_of now) && moved_into row (leaves row was) before later

-- above stage 0 each cell stands where the row before, with these cells, puts it
abbrev pub moved_above : Row → List (Option Cell) → List (Option Cell) → Bool
moved_above row [] [] = true
moved_above row [] (now ∷ later) = false
moved_above row (was ∷ before) [] = false
moved_above row (was ∷ before) (now ∷ later) = moved_into row (leaves row was) before later

abbrev pub moved_with : Shape → Option Cell → Row → Row → Bool
moved_with shape c before row = moved_above before (take shape.stages (with_cell shape.ex c before.cells)) (cells_in shape row)

abbrev pub moved_on : Shape → Row → Row → Bool
moved_on shape before row =
    if is_of_cell before.stop then moved_with shape None before row || moved_with shape (kept_back (Some (cell_at shape before shape.ex))) before row
    else moved_above before (cells_in shape before) (cells_in shape row)

-- where there is this name, it is the other one
abbrev pub has_kept : Option Name → Option Name → Bool
has_kept None now = true
has_kept (Some n) now = same_name now (Some n)

-- no cell has this serial
abbrev pub lacks : ℕ → List (Option Cell) → Bool
lacks s [] = true
lacks s (None ∷ rest) = lacks s rest
lacks s (Some d ∷ rest) = not (d.serial == s) && lacks s rest

-- the first of these cells may have the serial, where it stays, and no other has it
abbrev pub lacks_moved : Row → ℕ → List (Option Cell) → Bool
lacks_moved row s [] = true
lacks_moved row s (was ∷ rest) = (is_some (stays row was) || lacks s (was ∷ [])) && lacks s rest

-- what stands in stage 0 stood nowhere else in the row before
abbrev pub is_new : Row → Option Cell → List (Option Cell) → Bool
is_new row None was = true
is_new row (Some c) was = lacks_moved row c.serial was

-- what is flushed shows no hold
abbrev pub flushed_free : Row → List (Option Cell) → Bool
flushed_free row [] = true
flushed_free row (None ∷ rest) = flushed_free row rest
flushed_free row (Some c ∷ rest) = (is_none c.hold || not (has_serial row.flushed c.serial)) && flushed_free row rest

-- and so does what stops the run, which is not flushed
abbrev pub is_bare : Row → Option Cell → Bool
is_bare row None = true
is_bare row (Some c) = is_none c.hold && not (has_serial row.flushed c.serial)

abbrev pub stops_bare : Row → Option Cell → Bool
stops_bare row c = not (is_of_cell row.stop) || is_bare row c

-- what leaves the last stage retires
abbrev pub retired_as : Option (ℕ × Commit) → Option Name → Bool
retired_as None None = true
retired_as None (Some n) = false
retired_as (Some r) None = false
retired_as (Some r) (Some n) = n.0 == r.0

abbrev pub moves_as : Shape → Row → Row → Bool
moves_as shape before row =
    moved_on shape before row
    && has_kept (stays before (front (cells_in shape before))) (name_of (front (cells_in shape row)))
    && is_new before (front (cells_in shape row)) (cells_in shape before)
    && flushed_free row (cells_in shape row)
    && stops_bare row (cell_at shape row shape.ex)
    && retired_as row.retired (leaves row (cell_at shape row (shape.stages - 1)))

-- Fetch and unit

-- where stage 0 keeps no cell it has what is fetched
abbrev pub fetched_as : Option Name → Option Name → Option Name → Bool
fetched_as None new now = same_name now new
fetched_as (Some n) new now = true

abbrev pub fetches_as : Shape → ℕ → ℕ → List ℕ → Row → Row → Bool
fetches_as shape next fetch image before row = fetched_as (stays before (front (cells_in shape before))) (fetched next fetch (word_at image fetch)) (name_of (front (cells_in shape row)))

abbrev pub same_serial : Option ℕ → Option ℕ → Bool
same_serial None None = true
same_serial None (Some t) = false
same_serial (Some s) None = false
same_serial (Some s) (Some t) = s == t

-- Behind a stop

-- none of these is there
abbrev pub no_marks : List (Option ℕ) → Bool
no_marks [] = true
no_marks (None ∷ rest) = no_marks rest
no_marks (Some s ∷ rest) = false

-- the row flushes nothing and names no address
abbrev pub is_still : Row → Bool
is_still row = no_marks row.flushed && is_none row.redirect
