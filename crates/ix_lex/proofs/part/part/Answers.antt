use Rattle.std.proofs.Common.{Option, sym, ap}
use Rattle.ix_tree.specs.Lexing.{Form, space}
use Rattle.ix_lex.specs.Refusals.{refusal_of}
use Rattle.ix_lex.proofs.Openings.{no_part_none}
use Rattle.ix_lex.proofs.Parts.{space_is}
use Rattle.ix_lex.proofs.part.part.Goals as goal

pub returns-in-Space-clause-ok : goal.returns-in-Space-clause-ok
returns-in-Space-clause-ok c = (space, space_is c.args.bytes.now c.space.result.length c.space.result.kind c.in-Space.ensures c.space.ensures.length c.space.ensures.kind)

pub returns-in-Slash-clause-err : goal.returns-in-Slash-clause-err
returns-in-Slash-clause-err c = (ap (λ (z : Option Form). refusal_of c.args.at z) (sym c.in-Slash.ensures), no_part_none c.args.bytes.now c.in-Slash.ensures)
