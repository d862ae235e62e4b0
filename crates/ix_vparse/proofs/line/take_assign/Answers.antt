use Rattle.ix_verilog.specs.Words.{words_of}
use Rattle.ix_vparse.proofs.Taking.{took_assign, then_ok}
use Rattle.ix_vparse.proofs.line.take_assign.Goals as goal

pub returns : goal.returns
returns c =
    then_ok c.add_assign.result c.add_assign.ensures
    (λ e. took_assign c.args.scope.now c.args.right (words_of c.args.tokens.now) c.in_ok-assign.assign c.add_assign.new.self c.requires c.in_ok-assign.ensures.target c.in_ok-assign.ensures.right e)
