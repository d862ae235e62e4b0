use Rattle.std.proofs.Common.{◌≡◌, ◌∙◌, ◌+◌, ◌-◌, ◌<◌, sym, ap, subst, take, drop, length, get_or, Option, arith}
use Rattle.std.specs.Prelude.{option_map}
use Rattle.std.proofs.lemmas.List.{length-set, get_or_default}
use Rattle.rv_holds.specs.declared.token.Token.{Token}
use Rattle.rv_holds.specs.Holds.{held, decided}
use Rattle.rv_holds.proofs.Places.{rest_is, held_here, decided_more, front_kept}
use Rattle.rv_holds.proofs.deciding.decide.Goals as goal

pub loop-stage-preserved : goal.loop-stage-preserved
loop-stage-preserved c =
    let n = c.loop-stage.stage - 1 in
    let now = c.loop-stage.slots in
    let old = c.args.slots.now in
    let e : c.loop-stage.stage ≡ n + 1 = omega (arith, c.loop-stage-test.true) in
    let front : take (n + 1) now ≡ take (n + 1) old = subst (λ m. take m now ≡ take m old) e c.loop-stage.invariant.rest in
    let back : drop (n + 1) now ≡ decided c.args.shape (n + 1) (drop (n + 1) old) = subst (λ m. drop m now ≡ decided c.args.shape m (drop m old)) e c.loop-stage.invariant.done in
    let older = take (length now - (n + 1)) (drop (n + 1) now) in
    let s = c.index-slots-stage.result in
    let r = c.hold.new.slot in
    let inside : n < length old = omega (arith, c.loop-stage-test.true, c.loop-stage.auto.stage) in
    let one : get_or now n c.index-slots-stage-in-loop-stage.result ≡ s = get_or_default now n c.index-slots-stage-in-loop-stage.result s (omega (arith, inside, c.loop-stage.invariant.long)) ∙ sym c.index-slots-stage.is in
    let told : r ≡ option_map (held c.hold_in-shown.result) s = c.hold.ensures ∙ ap (λ (u : Option Token). option_map (held c.hold_in-shown.result) u) one in
    record {
      done = decided_more c.args.shape n now old older s r inside c.loop-stage.invariant.long front back c.index-slots-stage.is (rest_is now (n + 1)) (held_here c.args.shape n s r c.hold_in-shown.result older c.hold_in-shown.ensures told);
      rest = front_kept n now old r front;
      long = length-set now n r ∙ c.loop-stage.invariant.long;
    }
