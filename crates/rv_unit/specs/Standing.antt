-- Units as their callers see them (this project's choice).
use Rattle.std.specs.Prelude.{ℕ, List}
use Rattle.rv_unit.specs.declared.entry.Entry.{Entry}

-- the count of the stages, the last time of each unit, and what stands in the units, the newest first
pub record Standing : Type 0 where
  pub stages : ℕ
  pub lasts : List ℕ
  pub entries : List Entry
