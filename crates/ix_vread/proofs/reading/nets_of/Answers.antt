use Rattle.ix_verilog.specs.Words.{words_of}
use Rattle.ix_vread.proofs.reading.nets_of.Goals as goal

pub nets_in-requires-clause-finished : goal.nets_in-requires-clause-finished
nets_in-requires-clause-finished c = c.nets_laws.ensures.finished (words_of c.requires.written.tokens) c.args.modules.now c.requires.written.are
