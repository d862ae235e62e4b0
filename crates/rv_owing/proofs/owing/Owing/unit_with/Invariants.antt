use Rattle.std.proofs.Common.{◌≡◌, ℕ, ◌<◌, false}
use Rattle.rv_unit.specs.Entries.{last_time}
use Rattle.rv_unit.specs.Slots.{serial_at}
use Rattle.rv_lawful.specs.Outstanding.{is_serial}
use Rattle.rv_owing.proofs.owing.Owing.unit_with.Given as goal

abbrev pub invariant-loop-unit : goal.invariant-loop-unit
invariant-loop-unit l = (u : ℕ) → u < l.unit → is_serial (serial_at u (last_time l.self.units.lasts u) l.self.units.entries) l.serial ≡ false
