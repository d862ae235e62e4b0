use Rattle.std.proofs.Common.{lit<, Some, None}
use Rattle.std.proofs.lemmas.Str.Pattern.{split_after}
use Rattle.ix_diagnose.proofs.words.cut.Goals as goal

pub returns-in-Some-clause-first : goal.returns-in-Some-clause-first
returns-in-Some-clause-first c word rest w e = split_after 32 c.args.text.now word rest (Some c.in-Some.parts) c.in-Some.ensures.cases (lit< tt) e w

pub returns-in-None-clause-first : goal.returns-in-None-clause-first
returns-in-None-clause-first c word rest w e = absurd (split_after 32 c.args.text.now word rest None c.in-None.ensures.cases (lit< tt) e w)
