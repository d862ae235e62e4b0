use Rattle.ix_vnets.proofs.Sides.{no_range, range_form}
use Rattle.ix_vnets.proofs.right.range.Goals as goal

pub returns-in_default : goal.returns-in_default
returns-in_default c = no_range c.args.a.now c.args.high.now c.args.low.now (λ m n i j p q. c.in_default.ensures m i p)

pub returns-in_default-place_in : goal.returns-in_default-place_in
returns-in_default-place_in c = no_range c.args.a.now c.args.high.now c.args.low.now (λ m n i j p q. c.in_default-place_in.ensures n j q)

pub returns : goal.returns
returns c =
    range_form c.in_ok-source.source c.args.a.now c.args.high.now c.args.low.now c.in-Some.hi c.in-Some-place_in.lo c.in_ok-source.ensures c.in-Some.ensures.0 c.in-Some-place_in.ensures.0 c.in-Some.ensures.1 c.in-Some-place_in.ensures.1
