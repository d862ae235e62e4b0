use Rattle.std.proofs.Common.{◌+◌}
use Rattle.ix_parse_state.specs.Views.{stack_of}
use Rattle.ix_parse.proofs.Deeper.{moves_stmt}
use Rattle.ix_parse.proofs.stmt.begin_inner.Goals as goal

pub returns : goal.returns
returns c =
    moves_stmt c.saturating_add.result (c.args.depth + 1) (stack_of c.args.stack.items) c.args.token.now c.begin_stmt.result c.saturating_add.ensures c.begin_stmt.ensures
