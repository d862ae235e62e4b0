-- What a row writes of a hart, by what the hart keeps (this project's choice).
use Rattle.std.specs.Prelude.{ℕ, Option, Some, None}
use Rattle.ix_extension.specs.Extensions.{ExtensionTree}
use Rattle.rv_asks.specs.declared.asks.Asks.{Asks}
use Rattle.rv_past.specs.declared.due.Due.{Due}
use Rattle.rv_past.specs.Making.{IsStored}
use Rattle.rv_past.specs.Past.{retired_by as due_retired}
use Rattle.rv_seq.specs.declared.arch.Arch.{Arch}
use Rattle.rv_past.specs.declared.step.Step.{Step}
use Rattle.rv_barrel.specs.declared.cell.InFlight.{InFlight}
use Rattle.rv_barrel.specs.Showing.{retired_by, step_by}

-- the store of what retires out of a slot is inside the memory
abbrev pub IsStoredSlot : Option InFlight → Type 0
IsStoredSlot slot = IsStored (retired_by slot)

abbrev pub due_of : Step → Asks → Due
due_of step asks = record { step = step; asks = asks }

-- the state behind the writes of what retires as this step, where it was tried
abbrev pub arch_step : ExtensionTree → ℕ → Asks → Option Step → Arch → Arch
arch_step x serial asks None s = s
arch_step x serial asks (Some step) s = due_retired x (due_of step asks) (step_by serial asks (Some step)) s

-- the same of what retires out of a slot
abbrev pub arch_by : ExtensionTree → Option InFlight → Arch → Arch
arch_by x None s = s
arch_by x (Some c) s = arch_step x c.serial c.asks c.step s
