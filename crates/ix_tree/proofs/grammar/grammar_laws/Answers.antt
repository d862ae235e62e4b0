use Rattle.ix_tree.proofs.Derived.{two_ifs_derive}
use Rattle.ix_tree.proofs.Parts.{lexes_unique}
use Rattle.ix_tree.proofs.Unique.{unique}
use Rattle.ix_tree.proofs.Verdicts.{one_verdict, some_verdict}
use Rattle.ix_tree.proofs.grammar.grammar_laws.Goals as goal

pub returns-clause-tree : goal.returns-clause-tree
returns-clause-tree c = λ tokens x y d e. (unique d.is e.is).1

pub returns-clause-nesting : goal.returns-clause-nesting
returns-clause-nesting c = λ tokens ms ns x y d e. unique d e

pub returns-clause-verdict : goal.returns-clause-verdict
returns-clause-verdict c = one_verdict

pub returns-clause-some_verdict : goal.returns-clause-some_verdict
returns-clause-some_verdict c = some_verdict

pub returns-clause-lexing : goal.returns-clause-lexing
returns-clause-lexing c = λ bytes xs ys d e. lexes_unique d.reads e.reads

pub returns-clause-example : goal.returns-clause-example
returns-clause-example c = two_ifs_derive
