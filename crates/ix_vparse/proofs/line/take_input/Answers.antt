use Rattle.ix_verilog.specs.Words.{words_of}
use Rattle.ix_vparse.proofs.Taking.{took_input, then_ok}
use Rattle.ix_vparse.proofs.line.take_input.Goals as goal

pub returns : goal.returns
returns c = then_ok c.add_input.result c.add_input.ensures (λ e. took_input c.args.scope.now (words_of c.args.tokens.now) c.in_ok-port.port c.add_input.new.self c.requires c.in_ok-port.ensures e)
