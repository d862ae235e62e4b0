use Rattle.std.proofs.Common.{◌+◌}
use Rattle.ix_parse_state.specs.Views.{stack_of}
use Rattle.ix_parse.proofs.Deeper.{moves_type}
use Rattle.ix_parse.proofs.stmt.begin_inner_type.Goals as goal

pub returns : goal.returns
returns c =
    moves_type c.saturating_add.result (c.args.depth + 1) (stack_of c.args.stack.items) c.args.token.now c.begin_type.result c.saturating_add.ensures c.begin_type.ensures
