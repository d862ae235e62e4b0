use Rattle.std.proofs.Common.{◌≡◌, ◌++◌, drop}
use Rattle.ix_problem.specs.Reaches.{free_into}
use Rattle.ix_problem.proofs.reach.starts_of.Given as goal

abbrev pub invariant-edges : goal.invariant-edges
invariant-edges l = l.starts ++ free_into l.p l.to (drop l.edge-index l.p.edges) ≡ free_into l.p l.to l.p.edges
