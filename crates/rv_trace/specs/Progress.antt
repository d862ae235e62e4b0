-- How many rows may pass in a pipeline before one retires something (this project's choice).
use Rattle.std.specs.Prelude.{ℕ, ◌+◌, ◌≤◌, List, [], ◌∷◌}
use Rattle.rv_trace.specs.declared.row.Row.{Row}
use Rattle.rv_trace.specs.Trace.{rows_without}

-- the progress bound, in rows, for so many stages and custom registers and the greatest wait of the memory
abbrev pub progress_bound : ℕ → ℕ → ℕ → ℕ
progress_bound stages registers wait = stages + 128 + 32 + registers + wait + 2

-- no more rows than the bound pass in succession without a retirement
abbrev pub Progressing : ℕ → List Row → Type 0
Progressing bound [] = Unit {0}
Progressing bound (row ∷ earlier) = (rows_without (row ∷ earlier) ≤ bound) × Progressing bound earlier
