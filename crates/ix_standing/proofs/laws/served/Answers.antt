use Rattle.ix_standing.proofs.Serving.{built_serve, serves_inputs}
use Rattle.ix_standing.proofs.laws.served.Goals as goal

pub returns-clause-built : goal.returns-clause-built
returns-clause-built c = built_serve c.graph_laws.ensures.effect c.graph_laws.ensures.values

pub returns-clause-design : goal.returns-clause-design
returns-clause-design c = serves_inputs c.graph_laws.ensures.effect c.graph_laws.ensures.values
