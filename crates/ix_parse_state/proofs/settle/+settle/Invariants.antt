use Rattle.std.proofs.Common.{length}
use Rattle.ix_parse_state.proofs.settle.+settle.Given as goal

abbrev pub decreases-settle : goal.decreases-settle
decreases-settle l = length l.stack.items
