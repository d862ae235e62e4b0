use Rattle.ix_verilog.specs.Words.{words_of}
use Rattle.ix_vparse.proofs.Taking.{took_head}
use Rattle.ix_vparse.proofs.line.take_head.Goals as goal

pub returns : goal.returns
returns c = took_head c.args.scope.now (words_of c.args.tokens.now) c.in_ok-name.name c.open.new.self c.requires c.in_ok-name.ensures c.open.ensures
