use Rattle.std.proofs.Common.{arith}
use Rattle.rv_engine.specs.Showing.{first_older}
use Rattle.rv_engine.proofs.Seats.{operand_behind}
use Rattle.rv_engine.proofs.showing.operand_by.Goals as goal

pub returns : goal.returns
returns c =
    operand_behind c.args.shape c.args.file.now c.args.slots.now c.max-first.result (first_older c.args.flushed c.args.stage) c.args.r c.operand_of.result (let e = c.max-first.ensures in omega (arith, e)) c.operand_of.ensures
