use Rattle.ix_vform.proofs.Keeping.{done}
use Rattle.ix_vform.proofs.opened.rebuilt.Goals as goal

pub invariant_of-result : goal.invariant_of-result
invariant_of-result c = done c.args.put c.in-Ok-Ok.field-0-1 c.in-Ok-Ok.is-1 (done c.args.told c.in-Ok-Ok.field-0-0 c.in-Ok-Ok.is-0 c.requires)

pub returns : goal.returns
returns c = λ whole h. done c.args.put c.in-Ok-Ok.field-0-1 c.in-Ok-Ok.is-1 (done c.args.told c.in-Ok-Ok.field-0-0 c.in-Ok-Ok.is-0 h)
