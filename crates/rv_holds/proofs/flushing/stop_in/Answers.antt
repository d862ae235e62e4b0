use Rattle.std.proofs.Common.{◌∙◌, ◌+◌, ◌-◌, ◌∷◌, sym, ap, take, drop, length}
use Rattle.rv_holds.proofs.Places.{at_place, rest_is, stop_here, stop_later, stop_past}
use Rattle.rv_holds.proofs.flushing.stop_in.Goals.{in-Some+else-does_stop, in_default}
use Rattle.rv_holds.proofs.flushing.stop_in.Goals as goal

pub returns-then-does_stop : goal.returns-then-does_stop
returns-then-does_stop c =
    let n = c.loop-stage.stage in
    let xs = c.args.slots.now in
    let here = at_place xs n c.index-slots-stage.result c.loop-stage-test.true c.index-slots-stage.is ∙ ap (λ s. s ∷ drop (n + 1) xs) c.in-Some.is in
    sym (stop_here c.args.shape n xs (take (length xs - (n + 1)) (drop (n + 1) xs)) c.in-Some.token c.stop_of.result here (rest_is xs (n + 1)) c.if-does_stop.ensures c.stop_of.ensures)
    ∙ c.loop-stage.invariant

pub loop-stage-preserved : goal.loop-stage-preserved
loop-stage-preserved c =
    let n = c.loop-stage.stage in
    let xs = c.args.slots.now in
    let here = at_place xs n c.index-slots-stage.result c.loop-stage-test.true c.index-slots-stage.is in
    elim c.match-slots-stage.branch [
      | in-Some+else-does_stop w ↦ sym (stop_later c.args.shape n xs (take (length xs - (n + 1)) (drop (n + 1) xs)) w.in-Some.token (here ∙ ap (λ s. s ∷ drop (n + 1) xs) w.in-Some.is) (rest_is xs (n + 1)) w.if-does_stop.ensures) ∙ c.loop-stage.invariant
      | in_default w ↦ sym (stop_past c.args.shape n xs (here ∙ ap (λ s. s ∷ drop (n + 1) xs) w.in_default.is)) ∙ c.loop-stage.invariant
    ]
