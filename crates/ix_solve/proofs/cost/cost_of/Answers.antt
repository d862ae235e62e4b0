use Rattle.std.proofs.Common.{◌≡◌, arith, get_or, length, sym}
use Rattle.std.specs.Prelude.{sum}
use Rattle.ix_sheet.specs.Schedules.{sum_below}
use Rattle.ix_solve.proofs.Sums.{sum_placed}
use Rattle.ix_solve.proofs.cost.cost_of.Goals as goal

pub returns : goal.returns
returns c =
    let times : sum_below (λ k. get_or c.args.times.now k 0) (length c.args.p.now.ops) ≡ sum c.args.times.now
    = sum_placed c.args.times.now (length c.args.p.now.ops) (sym c.requires.schedule.count) in
    omega (arith, times, c.total.ensures.sum, c.total_kept.ensures.sum)
