use Rattle.std.proofs.Common.{refl}
use Rattle.number_cases.proofs.cells.of_operator.Goals as goal

pub of_two-requires-clause-typed : goal.of_two-requires-clause-typed
of_two-requires-clause-typed c = c.kind_of.ensures.typed c.graph_with-graph.result _ _ (c.in_ok-a.a.ty, c.in_ok-b.b.ty, refl, record { exists = c.in_ok-ty.ensures.ok.exists; signed = c.in_ok-ty.ensures.ok.signed; width = c.in_ok-ty.ensures.ok.width })
