-- The rows of a machine, the newest first (this project's choice).
use Rattle.std.specs.Prelude.{◌≡◌, List, [], ◌∷◌, None}
use Rattle.rv_trace.specs.declared.row.Row.{Row}
use Rattle.rv_trace.specs.Trace.{newest}
use Rattle.rv_engine.specs.Settings.{Setting, Machine, first_machine}
use Rattle.rv_engine.specs.Rows.{IsRowOf, machine_after}

-- the machine after these rows
unfoldable pub machine_at : Setting → List Row → Machine
machine_at k [] = first_machine k
machine_at k (row ∷ earlier) = machine_after k (machine_at k earlier)

-- each row is that of the machine after the rows before it, and none follows a stop
abbrev pub AreRows : Setting → List Row → Type 0
AreRows k [] = Unit {0}
AreRows k (row ∷ earlier) = IsRowOf k (machine_at k earlier) row × ((newest earlier).stop ≡ None) × AreRows k earlier
