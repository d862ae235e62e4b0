use Rattle.ix_verilog.specs.Words.{words_of}
use Rattle.ix_vparse.proofs.Taking.{took_update, update_length, then_ok}
use Rattle.ix_vparse.proofs.line.take_update.Goals as goal

pub update_in-requires : goal.update_in-requires
update_in-requires c = update_length c.args.scope.now c.args.tokens.now c.requires

pub returns : goal.returns
returns c =
    then_ok c.add_update.result c.add_update.ensures
    (λ e. took_update c.args.scope.now (words_of c.args.tokens.now) c.in_ok-update.update c.add_update.new.self c.requires c.in_ok-update.ensures.enable c.in_ok-update.ensures.target c.in_ok-update.ensures.source e)
