-- Counts of cells and of marks are small.
use Rattle.std.proofs.Common.{ℕ, suc, ◌≤◌, List, [], ◌∷◌, length, Option, Some, None, Bool, true, false, arith}
use Rattle.std.specs.Prelude.{if◌then◌else◌}
use Rattle.rv_trace.specs.declared.row.Cell.{Cell}
use Rattle.rv_rows.specs.Facts.{cells_in}
use Rattle.rv_watch.specs.Places.{lowers, lowering}

pub few_cells : (cells : List (Option Cell)) → cells_in cells ≤ length cells
few_cells [] = omega arith
few_cells (None ∷ above) = let l = few_cells above in omega (arith, l)
few_cells (Some c ∷ above) = let l = few_cells above in omega (arith, l)

pub few_marks : (before : ℕ → Bool) (marks : List (Option ℕ)) (s : ℕ) → lowering before marks s ≤ length marks
few_marks before [] s = omega arith
few_marks before (mark ∷ rest) s = let l = few_marks before rest s in by_case (lowers before mark s) l where
  by_case : (b : Bool) → lowering before rest s ≤ length rest → (if b then suc (lowering before rest s) else lowering before rest s) ≤ suc (length rest)
  by_case true l = omega (arith, l)
  by_case false l = omega (arith, l)
