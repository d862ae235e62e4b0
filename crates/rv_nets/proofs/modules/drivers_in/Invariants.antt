use Rattle.std.proofs.Common.{◌≡◌, ◌++◌, drop}
use Rattle.rv_nets.specs.Modules.{drivers_from, drivers_of}
use Rattle.rv_nets.proofs.modules.drivers_in.Given as goal

-- with the others behind them they are all
abbrev pub invariant-loop-number : goal.invariant-loop-number
invariant-loop-number l = l.drivers.items ++ drivers_from l.design l.number (drop l.number l.design.plans) (drop l.number l.design.nets) ≡ drivers_of l.design
