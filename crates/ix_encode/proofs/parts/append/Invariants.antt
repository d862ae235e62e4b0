use Rattle.std.proofs.Common.{◌≡◌, ◌++◌}
use Rattle.ix_encode.proofs.parts.append.Given as goal

abbrev pub invariant-loop-item : goal.invariant-loop-item
invariant-loop-item g l = l.to.items ≡ l.fn.to.items ++ l.yielded
