use Rattle.ix_cert.proofs.Printed.{then_ok, node_pieces}
use Rattle.ix_cert.proofs.print.put_node.Goals as goal

pub returns : goal.returns
returns c = then_ok c.put_labelled-4.result c.put_labelled-4.ensures (node_pieces c.args.weighted c.args.out.now.items c.put_labelled.new.out.items c.put_labelled-2.new.out.items c.put_width.new.out.items c.put_labelled-3.new.out.items c.put_labelled-4.new.out.items c.args.node.now c.from.result c.from-2.result c.from-3.result c.from-4.result c.from.ensures c.from-2.ensures c.from-3.ensures c.from-4.ensures c.in_ok-put_labelled.ensures c.in_ok-put_labelled-2.ensures c.in_ok-put_width.ensures c.in_ok-put_labelled-3.ensures)
