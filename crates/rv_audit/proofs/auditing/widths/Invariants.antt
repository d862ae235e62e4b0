use Rattle.std.proofs.Common.{◌≡◌, ◌++◌, map, drop}
use Rattle.rv_watch.specs.Printed.{width_of}
use Rattle.rv_audit.proofs.auditing.widths.Given as goal

abbrev pub invariant-loop-register : goal.invariant-loop-register
invariant-loop-register l = l.all ++ map width_of (drop l.register-index l.registers) ≡ map width_of l.registers
