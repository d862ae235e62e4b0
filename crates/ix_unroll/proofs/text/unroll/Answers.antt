use Rattle.ix_unroll.proofs.Flat.{all_flat}
use Rattle.ix_unroll.proofs.text.unroll.Goals as goal

pub returns-in-Ok-clause-flat : goal.returns-in-Ok-clause-flat
returns-in-Ok-clause-flat c = all_flat _ _ c.in-Ok.ensures.tree
