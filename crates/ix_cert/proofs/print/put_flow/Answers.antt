use Rattle.std.proofs.Common.{arith}
use Rattle.ix_cert.specs.Layout.{flow_line}
use Rattle.ix_cert.proofs.Printed.{lines_all}
use Rattle.ix_cert.proofs.print.put_flow.Goals as goal

pub returns : goal.returns
returns c = lines_all flow_line c.args.out.now.items c.loop-bound.out.items c.args.flow.now c.loop-bound.bound-index c.loop-bound.invariant.so_far (omega (arith, c.loop-bound-test.false))
