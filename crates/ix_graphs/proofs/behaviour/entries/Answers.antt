use Rattle.std.proofs.Common.{◌∙◌}
use Rattle.ix_graphs.proofs.Bridging.{entries_step, entries_end}
use Rattle.ix_graphs.proofs.behaviour.entries.Goals as goal

pub loop-table-preserved : goal.loop-table-preserved
loop-table-preserved c =
    entries_step c.args.tables.now c.loop-table.table-index c.table-item.result c.in_ok-copy.copy c.loop-table.out.items _ c.loop-table-test.true c.table-item.is (c.in_ok-copy.ensures ∙ c.as_slice.ensures) c.loop-table.invariant c.in_ok-push.ensures.items

pub returns : goal.returns
returns c = c.from_vec.ensures ∙ entries_end c.args.tables.now c.loop-table.table-index c.loop-table.out.items c.loop-table-test.false c.loop-table.invariant
