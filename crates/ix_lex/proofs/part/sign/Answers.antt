use Rattle.ix_lex.proofs.Options.{none_from}
use Rattle.ix_lex.proofs.Parts.{symbol_front, symbol_none}
use Rattle.ix_lex.proofs.part.sign.Goals as goal

pub returns-in_err-found-clause-none : goal.returns-in_err-found-clause-none
returns-in_err-found-clause-none c = none_from c.from_residual.result (symbol_none c.args.bytes.now c.requires c.in_err-found.ensures.none)

pub returns-clause-some : goal.returns-clause-some
returns-clause-some c = symbol_front c.args.bytes.now c.in_ok-found.found.number c.in_ok-found.found.length c.in_ok-found.ensures.some.0 c.in_ok-found.ensures.some.1
