use Rattle.ix_vnets.proofs.Sides.{no_literal, literal_form}
use Rattle.ix_vnets.proofs.right.literal.Goals as goal

pub returns-in-Some : goal.returns-in-Some
returns-in-Some c = literal_form c.in-Some.number c.args.word.now c.in-Some.ensures

pub returns-in-None : goal.returns-in-None
returns-in-None c = no_literal c.args.word.now c.in-None.ensures
