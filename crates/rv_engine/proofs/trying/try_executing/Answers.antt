use Rattle.std.proofs.Common.{◌≡◌, ◌∙◌, ◌+◌, ◌-◌, ◌<◌, sym, take, drop, length, get_or, arith}
use Rattle.std.proofs.lemmas.List.{get_or_default}
use Rattle.ix_extension.specs.Extensions.{view_extension}
use Rattle.rv_engine.proofs.Placing.{placed_ex, tried_here}
use Rattle.rv_engine.proofs.trying.try_executing.Goals as goal

pub returns-clause-slots : goal.returns-clause-slots
returns-clause-slots c =
    let x = view_extension c.args.design.now.extension in
    let k = c.args.design.now.sheet.shape in
    let slots = c.args.slots.now in
    let n = c.from-stage.result in
    let s = c.index-slots-stage.result in
    let u = get_or slots n c.index-slots-stage-2.result in
    let older = take (length slots - (n + 1)) (drop (n + 1) slots) in
    let inside : n < length slots = omega (arith, c.from-stage.ensures, c.requires.inside) in
    let same : u ≡ s = get_or_default slots n c.index-slots-stage-2.result s inside ∙ sym c.index-slots-stage.is in
    placed_ex x k c.args.future.now c.args.memory.now slots n s c.execute_if.new.slot c.from-stage.ensures c.requires.inside c.index-slots-stage.is
    (tried_here x k c.args.future.now c.args.memory.now s u c.execute_if.new.slot c.is_ripe_in-ripe.result older same c.is_ripe_in-ripe.ensures c.execute_if.ensures.slot)
