use Rattle.std.proofs.Common.{◌+◌, ◌-◌, ◌/◌, arith}
use Rattle.ix_sweep.proofs.Later.{fits_later}
use Rattle.ix_sweep.proofs.period.least_period.Goals as goal

pub halves-preserved : goal.halves-preserved
halves-preserved c =
    let middle = c.halves.low + (c.halves.high - c.halves.low) / 2 in (
      omega arith,
      omega (arith, c.halves-test.true),
      c.halves.invariant.2,
      c.halves.invariant.3,
      λ q some below fits. c.in_ok-fits.ensures.no c.if-branch.false (fits_later c.args.graph.now c.args.sheet.now c.args.mode q middle (omega (arith, below)) fits),
    )
