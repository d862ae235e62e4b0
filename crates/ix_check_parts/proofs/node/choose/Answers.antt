use Rattle.ix_typing.specs.Expressions.{common_type}
use Rattle.ix_check_parts.proofs.Passing.{refused_in}
use Rattle.ix_check_parts.proofs.node.choose.Goals as goal

pub returns-in-Err-common_type : goal.returns-in-Err-common_type
returns-in-Err-common_type c = λ r h. refused_in c.in-Err-common_type.error c.args.y c.in-Ok.y r c.in-Ok.is h (λ y. common_type c.args.span c.args.both.second.tree.ty y.ty) _ c.in-Err-common_type.ensures
