use Rattle.std.proofs.Common.{refl}
use Rattle.number_cases.proofs.cells.of_unary.Goals as goal

pub of_one-requires-clause-typed : goal.of_one-requires-clause-typed
of_one-requires-clause-typed c = c.unary_kind.ensures.typed c.graph_with-graph.result _ _ (c.in_ok-a.a.ty, refl, record { signed = c.in_ok-ty.ensures.ok.signed; width = c.in_ok-ty.ensures.ok.width })
