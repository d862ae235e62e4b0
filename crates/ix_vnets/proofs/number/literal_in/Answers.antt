use Rattle.std.proofs.Common.{arith}
use Rattle.ix_vnets.proofs.Literals.{no_width, no_raw, too_large}
use Rattle.ix_vnets.proofs.number.literal_in.Goals as goal

pub returns-in_default : goal.returns-in_default
returns-in_default c =
    no_width c.args.word.now c.leading_digits.result c.split_at.result.0.now c.split_at.result.1.now c.split_at.ensures.front c.split_at.ensures.back c.leading_digits.ensures.inside c.leading_digits.ensures.stops c.in_default.ensures

pub returns-in_default-based : goal.returns-in_default-based
returns-in_default-based c =
    no_raw c.args.word.now c.leading_digits.result c.split_at.result.0.now c.split_at.result.1.now c.split_at.ensures.front c.split_at.ensures.back c.leading_digits.ensures.inside c.leading_digits.ensures.stops c.in_default-based.ensures

pub returns-else-is_below : goal.returns-else-is_below
returns-else-is_below c =
    too_large c.args.word.now c.leading_digits.result c.split_at.result.0.now c.split_at.result.1.now c.split_at.ensures.front c.split_at.ensures.back c.leading_digits.ensures.inside c.leading_digits.ensures.stops
    c.in-Some.width c.in-Some-based.raw c.is_below.result c.in-Some.ensures.0 c.in-Some.ensures.1 (omega arith) c.in-Some-based.ensures c.is_below.ensures c.if-is_below.false
