use Rattle.std.proofs.Common.{◌∙◌, sym}
use Rattle.rv_holds.specs.Holds.{waits_for_custom}
use Rattle.rv_holds.proofs.Places.{found_here, found_later, found_none}
use Rattle.rv_holds.proofs.deciding.custom.Goals as goal

pub returns-then-is_some : goal.returns-then-is_some
returns-then-is_some c =
    sym (found_here (waits_for_custom c.args.older.now c.args.asks.now) c.loop-r.r c.custom_waited_for-hold.result c.loop-r-test.true c.custom_waited_for-hold.ensures c.if-is_some.ensures)
    ∙ c.loop-r.invariant

pub loop-r-preserved : goal.loop-r-preserved
loop-r-preserved c =
    sym (found_later (waits_for_custom c.args.older.now c.args.asks.now) c.loop-r.r c.custom_waited_for-hold.result c.loop-r-test.true c.custom_waited_for-hold.ensures c.if-is_some.ensures)
    ∙ c.loop-r.invariant

pub returns : goal.returns
returns c = sym (found_none (waits_for_custom c.args.older.now c.args.asks.now) c.loop-r.r c.loop-r-test.false) ∙ c.loop-r.invariant
