use Rattle.ix_tree.specs.Parsing.{is_tree, refused_at, too_deep_at}
use Rattle.ix_parse.proofs.Answering.{answered}
use Rattle.ix_parse.proofs.verdict.parse.Goals as goal

pub returns-clause-found : goal.returns-clause-found
returns-clause-found c = c.read.ensures.found

pub returns-clause-only : goal.returns-clause-only
returns-clause-only c = λ x d. answered c.args.tokens.now c.read.result c.read.ensures.found c.read.ensures.place (is_tree x) d

pub returns-clause-place : goal.returns-clause-place
returns-clause-place c = c.read.ensures.place

pub returns-clause-refuses : goal.returns-clause-refuses
returns-clause-refuses c = λ n d. answered c.args.tokens.now c.read.result c.read.ensures.found c.read.ensures.place (refused_at n) d

pub returns-clause-deepens : goal.returns-clause-deepens
returns-clause-deepens c = λ n d. answered c.args.tokens.now c.read.result c.read.ensures.found c.read.ensures.place (too_deep_at n) d
