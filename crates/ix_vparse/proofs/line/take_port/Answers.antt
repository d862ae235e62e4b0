use Rattle.ix_verilog.specs.Words.{words_of}
use Rattle.ix_vparse.proofs.Taking.{took_port, then_ok}
use Rattle.ix_vparse.proofs.line.take_port.Goals as goal

pub returns : goal.returns
returns c = then_ok c.add_port.result c.add_port.ensures (λ e. took_port c.args.scope.now (words_of c.args.tokens.now) c.in_ok-name.name c.add_port.new.self c.requires c.in_ok-name.ensures e)
