use Rattle.std.proofs.Common.{◌≡◌, ◌*◌, ◌≤◌, get_or}
use Rattle.ix_sheet.specs.Schedules.{sum_below}
use Rattle.ix_cert.proofs.sum.sum_of_times.Given as goal

abbrev pub invariant-times : goal.invariant-times
invariant-times l = (l.sum ≡ sum_below (λ k. get_or l.times k 0) l.at) × (l.sum ≤ l.at * 255)
