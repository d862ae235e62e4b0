use Rattle.std.proofs.Common.{◌≡◌, ◌++◌, map, drop}
use Rattle.ix_reports.specs.Blocks.{kind_text}
use Rattle.ix_reports.proofs.block.kinds_of.Given as goal

abbrev pub invariant-loop-op : goal.invariant-loop-op
invariant-loop-op l = l.kinds ++ map kind_text (drop l.op-index l.ops) ≡ map kind_text l.ops
