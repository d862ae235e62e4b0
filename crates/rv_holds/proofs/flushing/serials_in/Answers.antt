use Rattle.std.proofs.Common.{◌≡◌, ◌∙◌, ◌+◌, ◌-◌, ◌<◌, ◌∷◌, ap, subst, drop, length, Some, arith}
use Rattle.rv_trace.specs.RowParts.{in_five}
use Rattle.rv_holds.specs.Flushing.{listed}
use Rattle.rv_holds.proofs.Places.{at_place}
use Rattle.rv_holds.proofs.Clearing.{none_listed, none_counted, more_listed, more_counted}
use Rattle.rv_holds.proofs.flushing.serials_in.Goals as goal

pub loop-stage-init : goal.loop-stage-init
loop-stage-init c = record { done = none_listed c.args.slots.now; count = none_counted c.args.slots.now; few = omega arith }

pub loop-stage-preserved-in-Some : goal.loop-stage-preserved-in-Some
loop-stage-preserved-in-Some c =
    let xs = c.args.slots.now in
    let n = c.loop-stage.stage - 1 in
    let e : c.loop-stage.stage ≡ n + 1 = omega (arith, c.loop-stage-test.true) in
    let inside : n < length xs = omega (arith, c.loop-stage-test.true, c.loop-stage.auto.stage) in
    let here : drop n xs ≡ Some c.in-Some.token ∷ drop (n + 1) xs = at_place xs n c.index-slots-stage.result inside c.index-slots-stage.is ∙ ap (λ s. s ∷ drop (n + 1) xs) c.in-Some.is in
    let done = subst (λ m. c.loop-stage.serials ≡ in_five (listed (drop m xs))) e c.loop-stage.invariant.done in
    let counted = subst (λ m. c.loop-stage.count ≡ length (listed (drop m xs))) e c.loop-stage.invariant.count in
    record {
      done = more_listed xs n c.loop-stage.count c.in-Some.token c.loop-stage.serials here done counted (omega (arith, c.loop-stage.invariant.few, c.loop-stage-test.true, c.requires));
      count = more_counted xs n c.loop-stage.count c.in-Some.token here counted;
      few = omega (arith, c.loop-stage.invariant.few, c.loop-stage-test.true);
    }
