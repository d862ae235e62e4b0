use Rattle.ix_lex.proofs.Options.{none_from}
use Rattle.ix_lex.proofs.Parts.{number_front, number_none}
use Rattle.ix_lex.proofs.part.literal.Goals as goal

pub returns-in_err-kind-clause-none : goal.returns-in_err-kind-clause-none
returns-in_err-kind-clause-none c =
    none_from c.from_residual.result (number_none c.args.bytes.now c.run-length.result c.requires c.run-length.ensures.inside c.run-length.ensures.stops c.in_err-kind.ensures.none)

pub returns-clause-some : goal.returns-clause-some
returns-clause-some c =
    number_front c.args.bytes.now c.run-length.result c.in_ok-kind.kind c.requires c.run-length.ensures.within c.run-length.ensures.inside c.run-length.ensures.stops c.in_ok-kind.ensures.some
