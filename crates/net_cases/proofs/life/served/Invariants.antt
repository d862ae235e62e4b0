use Rattle.std.proofs.Common.{◌≡◌}
use Rattle.net_cases.proofs.life.served.Given as goal

abbrev pub invariant-loop : goal.invariant-loop
invariant-loop l = l.sim.net ≡ l.made.net
