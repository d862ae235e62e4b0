use Rattle.std.proofs.Common.{arith}
use Rattle.ix_sweep.proofs.Entries.{entry_more}
use Rattle.ix_sweep.proofs.sweep.push_entry.Goals as goal

pub returns : goal.returns
returns c before so_far =
    rw c.in_ok-push.ensures.ok
    (entry_more c.args.graph.now c.args.sheet.now c.args.block before c.args.period c.args.entries.now c.in_ok-entry.entry (omega (arith, c.if-period-gt-MOST.false))
    c.in_ok-entry.ensures.period c.in_ok-entry.ensures.entry so_far)
