use Rattle.std.proofs.Common.{subst, sym}
use Rattle.ix_tree.specs.Machine.{State, step}
use Rattle.ix_parse_state.specs.Moves.{Moves}
use Rattle.ix_parse.proofs.Places.{at_goal, at_instr, at_text}
use Rattle.ix_parse.proofs.step.place_step.Goals as goal

pub returns-in-Inside : goal.returns-in-Inside
returns-in-Inside c =
    subst (λ (z : State). Moves c.goal_step.result (step z c.args.token.now)) (sym (at_goal c.args.place c.in-Inside.goal c.in-Inside.stack c.in-Inside.is)) c.goal_step.ensures

pub returns-in-Instr : goal.returns-in-Instr
returns-in-Instr c =
    subst (λ (z : State). Moves c.instr_step.result (step z c.args.token.now)) (sym (at_instr c.args.place c.in-Instr.goal c.in-Instr.instr c.in-Instr.is)) c.instr_step.ensures

pub returns-in-Text : goal.returns-in-Text
returns-in-Text c = subst (λ (z : State). Moves c.text_step.result (step z c.args.token.now)) (sym (at_text c.args.place c.in-Text.goal c.in-Text.is)) c.text_step.ensures
