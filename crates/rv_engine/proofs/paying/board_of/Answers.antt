use Rattle.std.proofs.Common.{◌∙◌, sym, length, arith}
use Rattle.std.proofs.lemmas.Bool.{eqb-true}
use Rattle.rv_holds.specs.Holds.{register_count}
use Rattle.rv_holds.proofs.Least.{count_is, least_here, least_later, least_none}
use Rattle.rv_engine.specs.Owing.{holder_for}
use Rattle.rv_engine.proofs.Owings.{board_none}
use Rattle.rv_engine.proofs.paying.board_of.Goals as goal

pub returns-then-is_empty : goal.returns-then-is_empty
returns-then-is_empty c = sym (board_none c.args.owed.now c.args.asks.now (eqb-true (length c.args.owed.now) 0 (sym c.is_empty.ensures ∙ c.if-is_empty.true)))

pub returns-in-Some : goal.returns-in-Some
returns-in-Some c =
    let top = count_is in
    sym (least_here (holder_for c.args.owed.now c.args.asks.now) c.loop-number.number register_count c.in-Some.serial c.holder_touched-found.result (omega (arith, c.loop-number-test.true, top)) c.holder_touched-found.ensures c.in-Some.is)
    ∙ c.loop-number.invariant

pub loop-number-preserved : goal.loop-number-preserved
loop-number-preserved c =
    let top = count_is in
    sym (least_later (holder_for c.args.owed.now c.args.asks.now) c.loop-number.number register_count c.holder_touched-found.result (omega (arith, c.loop-number-test.true, top)) c.holder_touched-found.ensures c.in_default.is)
    ∙ c.loop-number.invariant

pub returns : goal.returns
returns c =
    let top = count_is in
    sym (least_none (holder_for c.args.owed.now c.args.asks.now) c.loop-number.number register_count (omega (arith, c.loop-number-test.false, top))) ∙ c.loop-number.invariant
