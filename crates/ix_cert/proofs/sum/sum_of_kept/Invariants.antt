use Rattle.std.proofs.Common.{◌≡◌, ◌+◌, ◌*◌, ◌≤◌, drop, sum_by}
use Rattle.ix_sheet.specs.Schedules.{kept_along}
use Rattle.ix_cert.specs.Faults.{times_of}
use Rattle.ix_cert.proofs.sum.sum_of_kept.Given as goal

abbrev pub invariant-edges : goal.invariant-edges
invariant-edges l =
    (l.sum + sum_by (kept_along l.b.problem (times_of l.b)) (drop l.edge-index l.b.problem.edges) ≡ sum_by (kept_along l.b.problem (times_of l.b)) l.b.problem.edges)
    × (l.sum ≤ l.edge-index * 65025)
