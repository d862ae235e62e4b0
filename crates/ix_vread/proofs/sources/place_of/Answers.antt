use Rattle.ix_vread.proofs.Places.{place_here, place_end}
use Rattle.ix_vread.proofs.sources.place_of.Goals as goal

pub returns-in-Some : goal.returns-in-Some
returns-in-Some c = let k = c.in-Some.ensures.lookup in place_here c.args.end c.args.number c.args.tokens.now c.in-Some.token.now k.3.0 k.1

pub returns-in-None : goal.returns-in-None
returns-in-None c = let k = c.in-None.ensures.lookup in place_end c.args.end c.args.number c.args.tokens.now k.3
