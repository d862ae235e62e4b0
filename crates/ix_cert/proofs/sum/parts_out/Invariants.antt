use Rattle.std.proofs.Common.{◌≡◌, ◌++◌, map, drop}
use Rattle.ix_sheet.specs.Schedules.{node_at, weight_of}
use Rattle.ix_sheet.specs.Bounds.{arc_of}
use Rattle.ix_cert.specs.Checks.{parts_out}
use Rattle.ix_cert.proofs.sum.parts_out.Given as goal

abbrev pub invariant-flow : goal.invariant-flow
invariant-flow l = l.parts.items ++ map (λ c. ((arc_of l.b.problem c.0).from, c.1)) (drop l.part-index l.b.flow) ≡ map (λ c. ((arc_of l.b.problem c.0).from, c.1)) l.b.flow

abbrev pub invariant-edges : goal.invariant-edges
invariant-edges l = l.parts.items ++ map (λ e. (e.1, weight_of (node_at l.b.problem e.0))) (drop l.edge-index l.b.problem.edges) ≡ parts_out l.b.problem l.b.flow
