use Rattle.std.proofs.Common.{◌≡◌, length}
use Rattle.library_tests.proofs.simulation.add_in_cycles.Given as goal

abbrev pub invariant-loop-enable : goal.invariant-loop-enable
invariant-loop-enable g l = length l.sim.net.outputs ≡ 2
