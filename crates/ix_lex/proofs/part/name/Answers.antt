use Rattle.std.proofs.Common.{refl, arith}
use Rattle.ix_lex.proofs.Parts.{word_front, word_none}
use Rattle.ix_lex.proofs.part.name.Goals as goal

pub returns-then-length-gt64-clause-err : goal.returns-then-length-gt64-clause-err
returns-then-length-gt64-clause-err c =
    (refl, word_none c.args.bytes.now c.run-length.result c.requires c.run-length.ensures.within c.if-length-gt64.true c.run-length.ensures.inside c.run-length.ensures.stops)

pub returns-in-Ok-clause-ok : goal.returns-in-Ok-clause-ok
returns-in-Ok-clause-ok c =
    word_front c.args.bytes.now c.run-length.result c.in-Ok.kind c.requires c.run-length.ensures.within (omega arith) c.run-length.ensures.inside c.run-length.ensures.stops c.in-Ok.ensures
