use Rattle.std.proofs.Common.{subst, sym, ◌∙◌, ap}
use Rattle.ix_tree.specs.Machine.{State, Next, step}
use Rattle.ix_parse_state.specs.Moves.{Moves}
use Rattle.ix_parse_state.specs.Views.{of_place}
use Rattle.ix_parse.proofs.Places.{behind_is, shallow}
use Rattle.ix_parse.proofs.step.step.Goals as goal

pub returns-in-None : goal.returns-in-None
returns-in-None c =
    let place = of_place c.args.reader.place in
    subst (λ (z : State). Moves c.place_step.result (step z c.args.token.now)) (sym (behind_is c.args.reader ∙ c.in-None.ensures.none place)) c.place_step.ensures

pub returns-in-Some : goal.returns-in-Some
returns-in-Some c =
    let place = of_place c.args.reader.place in
    let e = ap (λ (z : State). step z c.args.token.now) (behind_is c.args.reader) ∙ c.in-Some.ensures.some place c.args.token.now in
    subst (λ (n : Next). Moves c.fixed_step.result n) (sym e) (c.fixed_step.ensures _ (shallow c.args.reader.fixed))
