use Rattle.std.proofs.Common.{◌≡◌, ◌-◌}
use Rattle.rv_holds.specs.Holds.{custom_hold, first_from, waits_for_custom}
use Rattle.rv_holds.proofs.deciding.custom.Given as goal

abbrev pub invariant-loop-r : goal.invariant-loop-r
invariant-loop-r l = first_from (waits_for_custom l.older l.asks) l.r (16 - l.r) ≡ custom_hold l.older l.asks
