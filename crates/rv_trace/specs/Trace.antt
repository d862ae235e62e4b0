-- A trace as a history of rows, the newest first, and what is read from it (this project's choice).
use Rattle.std.specs.Prelude.{ℕ, zero, suc, List, [], ◌∷◌, replicate, Option, Some, None, Bool, false, ◌||◌, if◌then◌else◌, ◌==◌, is_some}
use Rattle.rv_trace.specs.declared.row.Cell.{Cell}
use Rattle.rv_trace.specs.declared.row.Row.{Row}
use Rattle.rv_seq.specs.declared.commit.Commit.{Commit}
use Rattle.rv_seq.specs.declared.arch.Arch.{Arch}
use Rattle.rv_seq.specs.Commits.{applied}

-- is the cell of this stage one of this serial?
abbrev pub has_cell : Option (Option Cell) → ℕ → Bool
has_cell None s = false
has_cell (Some None) s = false
has_cell (Some (Some c)) s = c.serial == s

-- is the serial among these flushed ones?
abbrev pub has_serial : List (Option ℕ) → ℕ → Bool
has_serial [] s = false
has_serial (None ∷ rest) s = has_serial rest s
has_serial (Some t ∷ rest) s = (t == s) || has_serial rest s

-- is the serial flushed in one of these rows?
unfoldable pub is_flushed : List Row → ℕ → Bool
is_flushed [] s = false
is_flushed (row ∷ earlier) s = has_serial row.flushed s || is_flushed earlier s

abbrev pub retires : Option (ℕ × Commit) → ℕ → Bool
retires None s = false
retires (Some (t, c)) s = t == s

-- is the serial retired in one of these rows?
unfoldable pub is_retired : List Row → ℕ → Bool
is_retired [] s = false
is_retired (row ∷ earlier) s = retires row.retired s || is_retired earlier s

-- the place of a serial in the run: the count of lower serials that are not flushed in one of these rows
unfoldable pub place : List Row → ℕ → ℕ
place rows zero = 0
place rows (suc s) = if is_flushed rows s then place rows s else suc (place rows s)

-- how many instructions are retired in these rows
unfoldable pub retirements : List Row → ℕ
retirements [] = 0
retirements (row ∷ earlier) = if is_some row.retired then suc (retirements earlier) else retirements earlier

-- the state behind what a row retires, if it retires something
abbrev pub with_retired : Option (ℕ × Commit) → Arch → Arch
with_retired None s = s
with_retired (Some (t, c)) s = applied c s

-- how many rows have passed since the last retirement
unfoldable pub rows_without : List Row → ℕ
rows_without [] = 0
rows_without (row ∷ earlier) = if is_some row.retired then 0 else suc (rows_without earlier)

-- a row with nothing in it, which stands before row 0
abbrev pub blank : Row
blank = record { cells = replicate 5 None; retired = None; written = None; flushed = replicate 5 None; redirect = None; taken = None; stop = None }

-- the row before the next one
abbrev pub newest : List Row → Row
newest [] = blank
newest (row ∷ earlier) = row
