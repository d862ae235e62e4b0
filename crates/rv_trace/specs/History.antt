-- A list of rows as its callers see it (this project's choice).
use Rattle.std.specs.Prelude.{ℕ, List}
use Rattle.rv_trace.specs.declared.row.Row.{Row}

-- the rows, the oldest first, and for how many more there is room
pub record History : Type 0 where
  pub rows : List Row
  pub spare : ℕ
