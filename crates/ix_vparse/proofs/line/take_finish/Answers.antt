use Rattle.std.proofs.Common.{sym, ◌∙◌}
use Rattle.ix_verilog.specs.Words.{words_of}
use Rattle.ix_vparse.proofs.Taking.{took_finish, then_ok}
use Rattle.ix_vparse.proofs.line.take_finish.Goals as goal

pub returns : goal.returns
returns c =
    then_ok c.push.result c.push.ensures.ok
    (λ e. took_finish c.args.scope.now c.close.new.self c.in-Some.source (words_of c.args.tokens.now) c.args.modules.now c.push.new.self c.requires (sym c.close.ensures.module ∙ c.in-Some.is) c.close.ensures.closed e)
