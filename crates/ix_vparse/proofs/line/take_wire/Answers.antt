use Rattle.ix_verilog.specs.Words.{words_of}
use Rattle.ix_vparse.proofs.Taking.{took_wire, then_ok}
use Rattle.ix_vparse.proofs.line.take_wire.Goals as goal

pub returns : goal.returns
returns c = then_ok c.add_wire.result c.add_wire.ensures (λ e. took_wire c.args.scope.now (words_of c.args.tokens.now) c.in_ok-port.port c.add_wire.new.self c.requires c.in_ok-port.ensures e)
