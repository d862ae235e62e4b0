use Rattle.std.proofs.Common.{IfOk, refl, ◌∷◌, ◌≡◌, ap, ◌∙◌, subst, arith}
use Rattle.ix_tree.specs.Machine.{State, have}
use Rattle.ix_parse_state.specs.declared.frame.Frame.{Frame}
use Rattle.ix_parse_state.specs.Parts.{part_of}
use Rattle.ix_parse_state.specs.Views.{stack_of, frame_of, operator_frame}
use Rattle.ix_parse_state.proofs.Settling.{none_ends, holds_on, ends_one, no_operator}
use Rattle.ix_parse_state.proofs.settle.+settle.Goals as goal

pub returns-in-None : goal.returns-in-None
returns-in-None t c =
    none_ends c.args.power c.args.depth (part_of c.args.part) (stack_of c.args.stack.items) (stack_of c.bottom.result.items) c.in-None.ensures.none c.bottom.ensures

pub returns-then-power-hold : goal.returns-then-power-hold
returns-then-power-hold t c =
    let e =
    holds_on c.args.power c.args.depth (part_of c.args.part) (operator_frame c.in-Operator.frame) (stack_of c.in-Some.top.1.items) (stack_of c.args.stack.items)
    (operator_frame c.in-Operator.frame ∷ stack_of c.in-Some.top.1.items)
    (c.in-Some.ensures.some ∙ ap (λ (f : Frame). frame_of f ∷ stack_of c.in-Some.top.1.items) c.in-Operator.is) refl
    (let l = c.if-power-hold.true in let h = c.hold.ensures in omega arith) in
    subst (λ (z : State). IfOk c.keep.result (λ h. have h.depth (part_of h.part) (stack_of h.stack.items) ≡ z)) e c.keep.ensures

pub returns-in-Ok : goal.returns-in-Ok
returns-in-Ok t c =
    let s = stack_of c.args.stack.items in
    let e =
    ends_one c.args.power c.args.depth c.level_of-depth.result (part_of c.args.part) (part_of c.in-Ok.part) (operator_frame c.in-Operator.frame) (stack_of c.in-Some.top.1.items) s
    (c.in-Some.ensures.some ∙ ap (λ (f : Frame). frame_of f ∷ stack_of c.in-Some.top.1.items) c.in-Operator.is)
    (let l = c.if-power-hold.false in let h = c.hold.ensures in omega arith)
    (c.level_of-depth.ensures c.args.depth) c.in-Ok.ensures in
    subst (λ (z : State). IfOk c.settle.result (λ h. have h.depth (part_of h.part) (stack_of h.stack.items) ≡ z)) e c.settle.ensures

pub returns-in_default : goal.returns-in_default
returns-in_default t c =
    let e =
    holds_on c.args.power c.args.depth (part_of c.args.part) (frame_of c.in-Some.top.0) (stack_of c.in-Some.top.1.items) (stack_of c.args.stack.items)
    (frame_of c.in-Some.top.0 ∷ stack_of c.in-Some.top.1.items) c.in-Some.ensures.some refl
    (let h = no_operator c.in-Some.top.0 c.in_default.not-Operator in let r = c.requires in omega arith) in
    subst (λ (z : State). IfOk c.keep-in_default.result (λ h. have h.depth (part_of h.part) (stack_of h.stack.items) ≡ z)) e c.keep-in_default.ensures
