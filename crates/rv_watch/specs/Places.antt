-- Where the cells of a row stand in the run, from what is kept of serials and from the marks of the row (this project's choice).
use Rattle.std.specs.Prelude.{ℕ, suc, ◌+◌, ◌-◌, List, [], ◌∷◌, Option, Some, None, Bool, false, ◌&&◌, not, if◌then◌else◌, nat_lt, slice_get}
use Rattle.rv_trace.specs.declared.row.Cell.{Cell}
use Rattle.rv_rows.specs.Facts.{cells_in}
use Rattle.rv_watch.specs.declared.seen.Seen.{Seen}

abbrev pub flushed_of : Option Seen → Bool
flushed_of None = false
flushed_of (Some entry) = entry.flushed

-- was the serial flushed? One that was never fetched was not
abbrev pub was_flushed : List Seen → ℕ → Bool
was_flushed seen s = flushed_of (slice_get seen s)

-- this mark lowers the place of s: its serial is lower, and was not flushed before
abbrev pub lowers : (ℕ → Bool) → Option ℕ → ℕ → Bool
lowers before None s = false
lowers before (Some j) s = nat_lt j s && not (before j)

-- how many of these marks lower the place of s
abbrev pub lowering : (ℕ → Bool) → List (Option ℕ) → ℕ → ℕ
lowering before [] s = 0
lowering before (mark ∷ rest) s = if lowers before mark s then suc (lowering before rest s) else lowering before rest s

-- the place of the first of these cells, with the others above it; 0 where there is none
abbrev pub first_place : ℕ → List Seen → List (Option ℕ) → List (Option Cell) → ℕ
first_place retired seen marks [] = 0
first_place retired seen marks (None ∷ above) = 0
first_place retired seen marks (Some c ∷ above) = (retired + cells_in above) - lowering (was_flushed seen) marks c.serial
