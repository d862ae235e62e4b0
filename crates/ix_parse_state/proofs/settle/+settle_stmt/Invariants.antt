use Rattle.std.proofs.Common.{length}
use Rattle.ix_parse_state.proofs.settle.+settle_stmt.Given as goal

abbrev pub decreases-settle_stmt : goal.decreases-settle_stmt
decreases-settle_stmt l = length l.stack.items
