use Rattle.ix_vnets.proofs.Sides.{both_form}
use Rattle.ix_vnets.proofs.right.both.Goals as goal

pub returns : goal.returns
returns c = both_form c.args.sign c.in_ok-first.first c.in_ok-second.second c.args.a.now c.args.b.now c.with_sign.result c.in_ok-first.ensures c.in_ok-second.ensures c.with_sign.ensures
