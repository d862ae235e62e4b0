use Rattle.std.proofs.Common.{◌≡◌, ◌++◌, map, drop}
use Rattle.ix_sheet.specs.declared.problem.Bound.TheVariants.{Dep}
use Rattle.ix_problem.proofs.bounds.push_edges.Given as goal

abbrev pub invariant-edges : goal.invariant-edges
invariant-edges l = l.bounds ++ map (λ e. Dep e.0 e.1) (drop l.edge-index l.p.edges) ≡ l.initial.bounds ++ map (λ e. Dep e.0 e.1) l.p.edges
