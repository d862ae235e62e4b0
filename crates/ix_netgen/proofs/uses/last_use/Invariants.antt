use Rattle.std.proofs.Common.{◌≡◌, drop, max}
use Rattle.ix_netgen.specs.Uses.{uses_until}
use Rattle.ix_netgen.proofs.uses.last_use.Given as goal

abbrev pub invariant-loop-other : goal.invariant-loop-other
invariant-loop-other l = max l.last (uses_until l.number (drop l.other l.ops) (drop l.other l.times)) ≡ uses_until l.number l.ops l.times
