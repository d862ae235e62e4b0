use Rattle.std.proofs.Common.{◌≡◌, ◌+◌, ◌*◌, ◌≤◌, drop, sum_by}
use Rattle.ix_cert.specs.Checks.{up_of, ups_of}
use Rattle.ix_cert.proofs.sum.ups.Given as goal

abbrev pub invariant-flow : goal.invariant-flow
invariant-flow l = (l.sum + sum_by (up_of l.b.problem) (drop l.part-index l.b.flow) ≡ ups_of l.b.problem l.b.flow) × (l.sum ≤ l.part-index * 4703919738795935661825)
