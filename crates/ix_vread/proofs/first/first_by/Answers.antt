use Rattle.std.proofs.Common.{sym, subst}
use Rattle.ix_vread.specs.Searches.{AreLoops}
use Rattle.ix_vread.proofs.Knowing.{order_same, found_first}
use Rattle.ix_vread.proofs.first.first_by.Goals as goal

pub loops_in-requires : goal.loops_in-requires
loops_in-requires c = order_same c.args.graph.now c.args.readers.now c.args.order.now c.requires.readers c.requires.order

pub returns : goal.returns
returns c =
    found_first c.args.graph.now c.args.readers.now c.deref.result.now c.first_looped.result c.requires.readers (subst (AreLoops c.args.readers.now) (sym c.deref.ensures.value) c.in_ok-marks.ensures) c.first_looped.ensures
