use Rattle.std.proofs.Common.{◌≡◌, ◌++◌, drop}
use Rattle.ix_typing.proofs.targets.Targets.append.Given as goal

abbrev pub invariant-loop-target : goal.invariant-loop-target
invariant-loop-target l = l.fn.self ++ l.more ≡ l.self ++ drop l.target-index l.more
