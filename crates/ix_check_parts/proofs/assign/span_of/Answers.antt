use Rattle.ix_check_parts.proofs.Passing.{span_is}
use Rattle.ix_check_parts.proofs.assign.span_of.Goals as goal

pub returns : goal.returns
returns c = span_is c.args.e.now.span c.args.e.now.kind
