use Rattle.std.proofs.Common.{◌≡◌}
use Rattle.std.specs.Prelude.{Some}
use Rattle.ix_sheet.specs.Behaviours.{problem_of}
use Rattle.ix_sweep.specs.Periods.{at_period, IsDecided}
use Rattle.ix_sweep.proofs.Widest.{without}
use Rattle.ix_sweep.proofs.period.tested.Goals as goal

pub returns-in-Some : goal.returns-in-Some
returns-in-Some c =
    let g = c.args.graph.now in
    let sheet = c.args.sheet.now in
    let p = c.in_ok-problem.problem in
    let is : p ≡ problem_of g (at_period sheet c.args.period) c.args.mode = rw c.at_period-sheet.ensures.is at c.in_ok-problem.ensures.problem in
    let bad : IsDecided p (Some c.in-Some.cycle) = rw c.in-Some.is at c.in_ok-cycle.ensures in
    without g sheet c.args.mode c.args.period p c.in-Some.cycle c.requires.graph is c.in_ok-problem.ensures.edges bad
