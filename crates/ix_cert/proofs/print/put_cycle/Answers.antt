use Rattle.std.proofs.Common.{arith}
use Rattle.ix_cert.specs.Layout.{cycle_line}
use Rattle.ix_cert.proofs.Printed.{lines_all}
use Rattle.ix_cert.proofs.print.put_cycle.Goals as goal

pub returns : goal.returns
returns c = lines_all cycle_line c.args.out.now.items c.loop-bound.out.items c.args.cycle.now c.loop-bound.bound-index c.loop-bound.invariant.so_far (omega (arith, c.loop-bound-test.false))
