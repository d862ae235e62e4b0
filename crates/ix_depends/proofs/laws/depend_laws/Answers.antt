use Rattle.ix_depends.proofs.Blocks.{blind_law}
use Rattle.ix_depends.proofs.Depending.{depends_law, before_memory_law, times_law, single_law, unwritten_law}
use Rattle.ix_depends.proofs.laws.depend_laws.Goals as goal

pub returns-clause-depends : goal.returns-clause-depends
returns-clause-depends c = depends_law c.behaviour_laws.ensures.typed c.behaviour_laws.ensures.effect

pub returns-clause-before_memory : goal.returns-clause-before_memory
returns-clause-before_memory c = before_memory_law c.behaviour_laws.ensures.typed c.behaviour_laws.ensures.effect c.graph_laws.ensures.valid

pub returns-clause-times : goal.returns-clause-times
returns-clause-times c = times_law c.graph_laws.ensures.valid c.spawn_laws.ensures.registers

pub returns-clause-single : goal.returns-clause-single
returns-clause-single c = single_law c.graph_laws.ensures.valid

pub returns-clause-blind : goal.returns-clause-blind
returns-clause-blind c = blind_law c.form_laws.ensures.texts

pub returns-clause-unwritten : goal.returns-clause-unwritten
returns-clause-unwritten c = unwritten_law c.behaviour_laws.ensures.typed c.behaviour_laws.ensures.effect
