use Rattle.ix_verilog.specs.Words.{words_of}
use Rattle.ix_vparse.proofs.Taking.{took_output, then_ok}
use Rattle.ix_vparse.proofs.line.take_output.Goals as goal

pub returns : goal.returns
returns c = then_ok c.add_output.result c.add_output.ensures (λ e. took_output c.args.scope.now (words_of c.args.tokens.now) c.in_ok-port.port c.add_output.new.self c.requires c.in_ok-port.ensures e)
