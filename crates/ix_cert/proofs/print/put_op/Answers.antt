use Rattle.ix_cert.proofs.Printed.{then_ok, op_parts}
use Rattle.ix_cert.proofs.print.put_op.Goals as goal

pub returns : goal.returns
returns c = then_ok c.put-3.result c.put-3.ensures (op_parts c.args.weighted c.args.out.now.items c.put_labelled.new.out.items c.put.new.out.items c.put-2.new.out.items c.put_node.new.out.items c.put_time.new.out.items c.put-3.new.out.items c.args.place c.args.kind.now c.args.node.now c.args.time c.in_ok-put_labelled.ensures c.in_ok-put.ensures c.in_ok-put-2.ensures c.in_ok-put_node.ensures c.in_ok-put_time.ensures)
