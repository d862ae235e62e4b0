use Rattle.std.proofs.Common.{◌∙◌, sym, arith}
use Rattle.rv_holdings.specs.Expected.{custom_at, custom_count}
use Rattle.rv_holdings.proofs.FirstFrom.{customs, found_here, found_later, found_none}
use Rattle.rv_holdings.proofs.expected.least_custom.Goals as goal

pub returns-then-is_some : goal.returns-then-is_some
returns-then-is_some c =
    let top = customs in
    sym (found_here (custom_at c.args.shape c.args.row.now c.args.asks.now c.args.older.now) c.loop-r.r custom_count c.custom_of-hold.result (omega (arith, c.loop-r-test.true, top)) c.custom_of-hold.ensures c.if-is_some.ensures)
    ∙ c.loop-r.invariant

pub loop-r-preserved : goal.loop-r-preserved
loop-r-preserved c =
    let top = customs in
    sym (found_later (custom_at c.args.shape c.args.row.now c.args.asks.now c.args.older.now) c.loop-r.r custom_count c.custom_of-hold.result (omega (arith, c.loop-r-test.true, top)) c.custom_of-hold.ensures c.if-is_some.ensures)
    ∙ c.loop-r.invariant

pub returns : goal.returns
returns c =
    let top = customs in
    sym (found_none (custom_at c.args.shape c.args.row.now c.args.asks.now c.args.older.now) c.loop-r.r custom_count (omega (arith, c.loop-r-test.false, top))) ∙ c.loop-r.invariant
