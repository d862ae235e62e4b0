use Rattle.std.proofs.Common.{◌≡◌, ◌++◌, ◌-◌, drop, length, map}
use Rattle.ix_behaviour.specs.Flags.{unmarked}
use Rattle.ix_resolve.proofs.marks.flags.Given as goal

abbrev pub invariant-loop-flags : goal.invariant-loop-flags
invariant-loop-flags l = l.flags.items ++ map unmarked (drop (length l.flags.items) l.targets) ≡ map unmarked l.targets

abbrev pub decreases-loop-flags : goal.decreases-loop-flags
decreases-loop-flags l = length l.targets - length l.flags.items
