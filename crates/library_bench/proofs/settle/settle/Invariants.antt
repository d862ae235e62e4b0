use Rattle.std.proofs.Common.{◌≡◌}
use Rattle.library_bench.proofs.settle.settle.Given as goal

abbrev pub invariant-loop-input : goal.invariant-loop-input
invariant-loop-input l = l.sim.net ≡ l.fn.sim.net
