use Rattle.std.proofs.Common.{◌≡◌, ◌+◌, ◌*◌, ◌≤◌, drop, sum_by}
use Rattle.ix_sheet.specs.Schedules.{node_at, weight_of}
use Rattle.ix_cert.proofs.sum.sum_of_latencies.Given as goal

abbrev pub invariant-edges : goal.invariant-edges
invariant-edges l =
    (l.sum + sum_by (λ e. weight_of (node_at l.p e.0) * (node_at l.p e.0).latency) (drop l.edge-index l.p.edges)
    ≡ sum_by (λ e. weight_of (node_at l.p e.0) * (node_at l.p e.0).latency) l.p.edges)
    × (l.sum ≤ l.edge-index * 65025)
