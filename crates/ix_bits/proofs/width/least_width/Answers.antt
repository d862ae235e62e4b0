use Rattle.std.proofs.Common.{arith}
use Rattle.ix_bits.proofs.WidthLemmas.{width_of_zero, width_holds, width_is_least}
use Rattle.ix_bits.proofs.width.least_width.Goals as goal

pub returns-then-value-eq0-clause-value : goal.returns-then-value-eq0-clause-value
returns-then-value-eq0-clause-value c = width_of_zero c.args.value c.if-value-eq0.true

pub returns-else-value-eq0-clause-holds : goal.returns-else-value-eq0-clause-holds
returns-else-value-eq0-clause-holds c = width_holds c.args.value c.ranges.value.fits

pub returns-else-value-eq0-clause-least : goal.returns-else-value-eq0-clause-least
returns-else-value-eq0-clause-least c = λ w some h. let l = width_is_least c.args.value w c.ranges.value.fits some h in omega (arith, l)
