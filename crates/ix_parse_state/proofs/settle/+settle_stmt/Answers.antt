use Rattle.std.proofs.Common.{IfOk, refl, ◌∷◌, ◌≡◌, ap, ◌∙◌, subst, arith}
use Rattle.ix_tree.specs.Machine.{State, done}
use Rattle.ix_parse_state.specs.declared.frame.Frame.{Frame}
use Rattle.ix_parse_state.specs.Views.{stack_of, frame_of, stmt_frame, done_of}
use Rattle.ix_parse_state.proofs.Settling.{no_stmt_ends, holds_stmt_on, ends_one_stmt, no_stmt}
use Rattle.ix_parse_state.proofs.settle.+settle_stmt.Goals as goal

pub returns-in-None : goal.returns-in-None
returns-in-None t c =
    no_stmt_ends c.args.power (done_of c.args.stmt) (stack_of c.args.stack.items) (stack_of c.bottom.result.items) c.in-None.ensures.none c.bottom.ensures

pub returns-then-power-hold_stmt : goal.returns-then-power-hold_stmt
returns-then-power-hold_stmt t c =
    let e =
    holds_stmt_on c.args.power (done_of c.args.stmt) (stmt_frame c.in-Stmt.frame) (stack_of c.in-Some.top.1.items) (stack_of c.args.stack.items)
    (stmt_frame c.in-Stmt.frame ∷ stack_of c.in-Some.top.1.items)
    (c.in-Some.ensures.some ∙ ap (λ (f : Frame). frame_of f ∷ stack_of c.in-Some.top.1.items) c.in-Stmt.is) refl
    (let l = c.if-power-hold_stmt.true in let h = c.hold_stmt.ensures in omega arith) in
    subst (λ (z : State). IfOk c.keep_stmt.result (λ h. done (done_of h.stmt) (stack_of h.stack.items) ≡ z)) e c.keep_stmt.ensures

pub returns-in-Ok : goal.returns-in-Ok
returns-in-Ok t c =
    let e =
    ends_one_stmt c.args.power (done_of c.args.stmt) (done_of c.in-Ok.stmt) (stmt_frame c.in-Stmt.frame) (stack_of c.in-Some.top.1.items) (stack_of c.args.stack.items)
    (c.in-Some.ensures.some ∙ ap (λ (f : Frame). frame_of f ∷ stack_of c.in-Some.top.1.items) c.in-Stmt.is)
    (let l = c.if-power-hold_stmt.false in let h = c.hold_stmt.ensures in omega arith) c.in-Ok.ensures in
    subst (λ (z : State). IfOk c.settle_stmt.result (λ h. done (done_of h.stmt) (stack_of h.stack.items) ≡ z)) e c.settle_stmt.ensures

pub returns-in_default : goal.returns-in_default
returns-in_default t c =
    let e =
    holds_stmt_on c.args.power (done_of c.args.stmt) (frame_of c.in-Some.top.0) (stack_of c.in-Some.top.1.items) (stack_of c.args.stack.items)
    (frame_of c.in-Some.top.0 ∷ stack_of c.in-Some.top.1.items) c.in-Some.ensures.some refl
    (let h = no_stmt c.in-Some.top.0 c.in_default.not-Stmt in let r = c.requires in omega arith) in
    subst (λ (z : State). IfOk c.keep_stmt-in_default.result (λ h. done (done_of h.stmt) (stack_of h.stack.items) ≡ z)) e c.keep_stmt-in_default.ensures
