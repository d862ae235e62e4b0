use Rattle.std.proofs.Common.{◌∙◌, sym}
use Rattle.ix_terms.proofs.Makes.{magnitude_of}
use Rattle.ix_terms.proofs.make.magnitude.Goals as goal

pub returns-then-is_negative : goal.returns-then-is_negative
returns-then-is_negative c = magnitude_of c.args.v c.ones.result c.ones.ensures (sym c.is_negative.ensures ∙ c.if-is_negative.true)
