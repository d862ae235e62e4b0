use Rattle.std.proofs.Common.{◌≡◌}
use Rattle.verilog_cases.proofs.stepped.put_cycles.Given as goal

abbrev pub invariant-loop : goal.invariant-loop
invariant-loop l = l.sim.net ≡ l.net
