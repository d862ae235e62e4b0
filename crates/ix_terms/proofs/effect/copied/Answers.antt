use Rattle.std.proofs.Common.{◌∙◌}
use Rattle.ix_terms.proofs.Starting.{copy_step, copy_end}
use Rattle.ix_terms.proofs.effect.copied.Goals as goal

pub loop-table-preserved : goal.loop-table-preserved
loop-table-preserved c =
    copy_step c.args.tables.now c.loop-table.out.items _ c.loop-table.table-index c.in_ok-copy.copy c.table-item.result c.loop-table-test.true c.table-item.is c.loop-table.invariant (c.in_ok-copy.ensures ∙ c.as_slice.ensures) c.in_ok-push.ensures.items

pub returns : goal.returns
returns c = c.from_vec.ensures ∙ copy_end c.args.tables.now c.loop-table.out.items c.loop-table.table-index c.loop-table-test.false c.loop-table.invariant
