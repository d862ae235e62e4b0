use Rattle.ix_lex.proofs.Words.{name_utf8}
use Rattle.ix_lex.proofs.word.word.Goals as goal

pub unreachable-requires : goal.unreachable-requires
unreachable-requires c = c.in-Err.ensures.cases.0 (name_utf8 c.args.bytes.now c.requires.inside)
