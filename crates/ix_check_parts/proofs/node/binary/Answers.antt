use Rattle.ix_typing.specs.Expressions.{binary_type}
use Rattle.ix_check_parts.specs.Telling.{seen}
use Rattle.ix_check_parts.proofs.Passing.{refused_in}
use Rattle.ix_check_parts.proofs.node.binary.Goals as goal

pub returns-in-Err-binary_type : goal.returns-in-Err-binary_type
returns-in-Err-binary_type c = λ r h. refused_in c.in-Err-binary_type.error c.args.y c.in-Ok.y r c.in-Ok.is h (λ y. binary_type c.args.span c.args.op c.args.x.tree.ty y.ty) _ c.in-Err-binary_type.ensures
