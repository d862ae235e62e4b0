use Rattle.std.proofs.Common.{◌≡◌, ◌+◌, ◌<◌, ℕ, Some, get_or}
use Rattle.std.specs.Prelude.{slice_get}
use Rattle.ix_net.specs.declared.wires.Latch.{Latch}
use Rattle.ix_neteval.specs.Wired.{latched}
use Rattle.ix_neteval.proofs.running.clock_banks.Given as goal

abbrev pub invariant-loop-i : goal.invariant-loop-i
invariant-loop-i l = (k : ℕ) (x : Latch) → k < l.i → slice_get l.latches k ≡ Some x → get_or l.banks k 0 ≡ latched l.values (l.own + k) x
