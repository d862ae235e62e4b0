use Rattle.ix_bits.proofs.Shifts.{joined_bits, joined_below}
use Rattle.ix_bits.proofs.arithmetic.joined.Goals as goal

pub returns-clause-value : goal.returns-clause-value
returns-clause-value c = joined_bits c.args.high.raw c.args.low.width c.args.low.raw c.args.high.width c.args.low.in_width c.args.high.in_width c.requires

pub invariant_of-result-clause-in_width : goal.invariant_of-result-clause-in_width
invariant_of-result-clause-in_width c =
    rw (joined_bits c.args.high.raw c.args.low.width c.args.low.raw c.args.high.width c.args.low.in_width c.args.high.in_width c.requires)
    (joined_below c.args.high.raw c.args.low.width c.args.low.raw c.args.high.width c.args.low.in_width c.args.high.in_width)
