use Rattle.std.proofs.Common.{arith}
use Rattle.std.proofs.lemmas.Grind.{common_steps}
use Rattle.ix_io.proofs.Digits.{pow_four_times}
use Rattle.ix_listing.proofs.put.digit_at.Goals as goal

pub returns : goal.returns
returns c = rw (← pow_four_times c.args.place) (grind (arith, common_steps))
