use Rattle.std.specs.Prelude.{Some}
use Rattle.ix_sweep.specs.Periods.{IsTested}
use Rattle.ix_sweep.proofs.Widest.{none_fits}
use Rattle.ix_sweep.proofs.sweep.least.Goals as goal

pub returns-in-Some-clause-period : goal.returns-in-Some-clause-period
returns-in-Some-clause-period c =
    let g = c.args.graph.now in
    let sheet = c.args.sheet.now in
    let mode = c.widest_mode-mode.result in
    let tested : IsTested g sheet mode 1000000 (Some c.in-Some.below) = rw c.in-Some.is at c.in_ok-below.ensures in
    none_fits g sheet c.args.block mode c.in-Some.below c.widest_mode-mode.ensures tested
