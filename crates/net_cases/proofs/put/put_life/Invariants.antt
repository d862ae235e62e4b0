use Rattle.std.proofs.Common.{◌≡◌}
use Rattle.net_cases.proofs.put.put_life.Given as goal

abbrev pub invariant-loop-line : goal.invariant-loop-line
invariant-loop-line l = l.sim.net ≡ l.net
