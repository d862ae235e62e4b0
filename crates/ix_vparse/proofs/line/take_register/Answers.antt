use Rattle.ix_verilog.specs.Words.{words_of}
use Rattle.ix_vparse.proofs.Taking.{took_register, then_ok}
use Rattle.ix_vparse.proofs.line.take_register.Goals as goal

pub returns : goal.returns
returns c = then_ok c.add_register.result c.add_register.ensures (λ e. took_register c.args.scope.now (words_of c.args.tokens.now) c.in_ok-port.port c.add_register.new.self c.requires c.in_ok-port.ensures e)
