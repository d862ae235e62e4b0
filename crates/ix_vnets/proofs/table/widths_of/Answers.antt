use Rattle.ix_vnets.proofs.Holding.{declared_holds, holds_none}
use Rattle.ix_vnets.proofs.table.widths_of.Goals as goal

pub returns : goal.returns
returns c =
    declared_holds c.args.source.now c.as_slice.result.now c.as_slice-2.result.now c.as_slice-3.result.now c.as_slice-4.result.now c.new-widths.result c.put.new.widths c.put-2.new.widths c.put-3.new.widths c.put-4.new.widths
    c.as_slice.ensures c.as_slice-2.ensures c.as_slice-3.ensures c.as_slice-4.ensures (holds_none c.new-widths.result c.new-widths.ensures.empty)
    c.in_ok-put.ensures c.in_ok-put-2.ensures c.in_ok-put-3.ensures c.in_ok-put-4.ensures
