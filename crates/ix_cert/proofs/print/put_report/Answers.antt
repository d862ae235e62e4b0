use Rattle.ix_cert.proofs.Printed.{then_ok, report_parts}
use Rattle.ix_cert.proofs.print.put_report.Goals as goal

pub returns : goal.returns
returns c = then_ok c.put_blocks.result c.put_blocks.ensures (report_parts c.args.out.now.items c.put_labelled.new.out.items c.put.new.out.items c.put_labelled-2.new.out.items c.put-2.new.out.items c.put_blocks.new.out.items c.args.report.now c.from.result c.from-2.result c.is_weighted.result c.as_slice.result.now c.from.ensures c.from-2.ensures c.is_weighted.ensures c.as_slice.ensures c.in_ok-put_labelled.ensures c.in_ok-put.ensures c.in_ok-put_labelled-2.ensures c.in_ok-put-2.ensures)
