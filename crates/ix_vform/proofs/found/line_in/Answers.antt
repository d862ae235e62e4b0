use Rattle.ix_verilog.specs.Words.{words_of}
use Rattle.ix_vform.proofs.Listed.{found_all}
use Rattle.ix_vform.proofs.found.line_in.Goals as goal

pub returns : goal.returns
returns c = found_all c.args.scope.now (words_of c.args.tokens.now) c.found_in.result c.found_in.ensures
