use Rattle.ix_vform.proofs.Texts.{literal_iff, no_literal}
use Rattle.ix_vform.proofs.word.is_literal.Goals as goal

pub returns-then-is_number : goal.returns-then-is_number
returns-then-is_number c =
    literal_iff c.args.word.now c.leading_digits.result c.split_at.result.0.now c.split_at.result.1.now c.is_number.result c.is_based.result c.split_at.ensures.front c.split_at.ensures.back c.leading_digits.ensures.inside c.leading_digits.ensures.stops
    c.is_number.ensures c.is_based.ensures c.if-is_number.true

pub returns : goal.returns
returns c = no_literal c.args.word.now c.leading_digits.result c.split_at.result.0.now c.is_number.result c.split_at.ensures.front c.leading_digits.ensures.inside c.leading_digits.ensures.stops c.is_number.ensures c.if-is_number.false
