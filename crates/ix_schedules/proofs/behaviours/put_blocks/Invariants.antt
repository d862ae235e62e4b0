use Rattle.std.proofs.Common.{◌≡◌, ◌++◌, map}
use Rattle.std.specs.List.{range_with_len}
use Rattle.ix_behaviour.specs.declared.which.Which.TheVariants as W
use Rattle.ix_schedules.proofs.behaviours.put_blocks.Given as goal

abbrev pub invariant-loop-number : goal.invariant-loop-number
invariant-loop-number l = l.out.items ≡ l.initial.out.items ++ map (λ n. W.Block n) (range_with_len 0 l.number)
