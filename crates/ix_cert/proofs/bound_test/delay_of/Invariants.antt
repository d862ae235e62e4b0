use Rattle.std.proofs.Common.{◌≡◌, ◌+◌, ◌*◌, ◌≤◌, drop, sum_by}
use Rattle.ix_sheet.specs.Schedules.{node_at, delay_along}
use Rattle.ix_cert.proofs.bound_test.delay_of.Given as goal

abbrev pub invariant-path : goal.invariant-path
invariant-path l =
    (l.sum + sum_by (λ k. (node_at l.p k).delay) (drop l.op-index l.path) ≡ delay_along l.p l.path) × (l.sum ≤ l.op-index * 4294967295)
