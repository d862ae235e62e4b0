use Rattle.ix_parse.proofs.Places.{finish_text}
use Rattle.ix_parse.proofs.verdict.ended_tree.Goals as goal

pub returns-in_default : goal.returns-in_default
returns-in_default c = record { some = tt; none = finish_text c.args.goal c.in_default.not-Ended }
