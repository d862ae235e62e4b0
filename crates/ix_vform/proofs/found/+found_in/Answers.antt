use Rattle.ix_verilog.specs.Words.{words_of}
use Rattle.ix_vform.proofs.Listed.{part_all}
use Rattle.ix_vform.proofs.found.+found_in.Goals as goal

pub returns-in-Part : goal.returns-in-Part
returns-in-Part t c =
    part_all c.args.scope.now (words_of c.args.tokens.now) c.args.kinds.now c.in-Part.words c.max.result c.reach_of-reach.result c.in-len1-up.len_at_least c.reach_of-reach.ensures c.if-reach.false c.in-Part.ensures.0
    c.in-Part.ensures.1 c.max.ensures
