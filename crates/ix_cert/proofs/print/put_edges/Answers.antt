use Rattle.std.proofs.Common.{arith}
use Rattle.ix_cert.specs.Layout.{edge_line}
use Rattle.ix_cert.proofs.Printed.{lines_all}
use Rattle.ix_cert.proofs.print.put_edges.Goals as goal

pub returns : goal.returns
returns c = lines_all edge_line c.args.out.now.items c.loop-from.out.items c.args.edges.now c.loop-from.from-index c.loop-from.invariant.so_far (omega (arith, c.loop-from-test.false))
