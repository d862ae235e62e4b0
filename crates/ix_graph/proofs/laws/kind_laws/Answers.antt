use Rattle.ix_graph.proofs.KindLemmas.{number_of-word_of, word_at_number, number_of-place}
use Rattle.ix_graph.proofs.SameKinds.{same_kind_law}
use Rattle.ix_graph.proofs.laws.kind_laws.Goals as goal

pub returns-clause-numbers : goal.returns-clause-numbers
returns-clause-numbers c = number_of-word_of

pub returns-clause-words : goal.returns-clause-words
returns-clause-words c = word_at_number

pub returns-clause-places : goal.returns-clause-places
returns-clause-places c = number_of-place

pub returns-clause-same : goal.returns-clause-same
returns-clause-same c = same_kind_law
