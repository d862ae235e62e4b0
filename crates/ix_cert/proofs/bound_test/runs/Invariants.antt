use Rattle.std.proofs.Common.{◌≡◌, ◌-◌, drop, get_or}
use Rattle.ix_cert.specs.Checks.{has_runs, has_all_runs}
use Rattle.ix_cert.proofs.bound_test.runs.Given as goal

abbrev pub invariant-steps : goal.invariant-steps
invariant-steps l = has_runs l.p (get_or l.path (l.at - 1) 0) (drop l.at l.path) ≡ has_all_runs l.p l.path
