use Rattle.std.proofs.Common.{◌∙◌, sym, arith}
use Rattle.rv_holdings.specs.Expected.{board_at, register_count}
use Rattle.rv_holdings.proofs.FirstFrom.{registers, found_here, found_later, found_none}
use Rattle.rv_holdings.proofs.expected.least_board.Goals as goal

pub returns-then-is_some : goal.returns-then-is_some
returns-then-is_some c =
    let top = registers in
    sym (found_here (board_at c.args.shape c.args.row.now c.args.owed.now c.args.asks.now c.args.older.now) c.loop-number.number register_count c.board_of-hold.result (omega (arith, c.loop-number-test.true, top)) c.board_of-hold.ensures c.if-is_some.ensures)
    ∙ c.loop-number.invariant

pub loop-number-preserved : goal.loop-number-preserved
loop-number-preserved c =
    let top = registers in
    sym (found_later (board_at c.args.shape c.args.row.now c.args.owed.now c.args.asks.now c.args.older.now) c.loop-number.number register_count c.board_of-hold.result (omega (arith, c.loop-number-test.true, top)) c.board_of-hold.ensures c.if-is_some.ensures)
    ∙ c.loop-number.invariant

pub returns : goal.returns
returns c =
    let top = registers in
    sym (found_none (board_at c.args.shape c.args.row.now c.args.owed.now c.args.asks.now c.args.older.now) c.loop-number.number register_count (omega (arith, c.loop-number-test.false, top))) ∙ c.loop-number.invariant
