use Rattle.std.proofs.Common.{◌∙◌, sym, arith}
use Rattle.rv_holds.specs.Holds.{register_count, spawner}
use Rattle.rv_holds.proofs.Least.{count_is, least_here, least_later, least_none, least_of_none}
use Rattle.rv_holds.proofs.Spawns.{no_spawner}
use Rattle.rv_holds.proofs.board.least_spawned.Goals as goal

pub returns-then-not-any_spawns : goal.returns-then-not-any_spawns
returns-then-not-any_spawns c =
    sym (least_of_none (spawner c.args.older.now c.args.asks.now) 0 register_count (no_spawner c.args.older.now c.args.asks.now (sym c.any_spawns.ensures ∙ c.if-not-any_spawns.true)))

pub returns-in-Some : goal.returns-in-Some
returns-in-Some c =
    let top = count_is in
    sym (least_here (spawner c.args.older.now c.args.asks.now) c.loop-number.number register_count c.in-Some.serial c.spawner_for-found.result (omega (arith, c.loop-number-test.true, top)) c.spawner_for-found.ensures c.in-Some.is)
    ∙ c.loop-number.invariant

pub loop-number-preserved : goal.loop-number-preserved
loop-number-preserved c =
    let top = count_is in
    sym (least_later (spawner c.args.older.now c.args.asks.now) c.loop-number.number register_count c.spawner_for-found.result (omega (arith, c.loop-number-test.true, top)) c.spawner_for-found.ensures c.in_default.is)
    ∙ c.loop-number.invariant

pub returns : goal.returns
returns c =
    let top = count_is in
    sym (least_none (spawner c.args.older.now c.args.asks.now) c.loop-number.number register_count (omega (arith, c.loop-number-test.false, top))) ∙ c.loop-number.invariant
