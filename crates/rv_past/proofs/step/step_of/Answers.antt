use Rattle.std.proofs.Common.{◌∙◌, sym, ap, refl}
use Rattle.ix_extension.specs.Extensions.{view_extension}
use Rattle.rv_tried.specs.Tried.{tried}
use Rattle.rv_seq.specs.States.{state_at}
use Rattle.rv_seq.specs.Interrupts.{return_to}
use Rattle.rv_past.proofs.Trying.{nowhere_is, found_is}
use Rattle.rv_past.proofs.step.step_of.Goals as goal

pub returns-in_default-clause-step : goal.returns-in_default-clause-step
returns-in_default-clause-step c =
    nowhere_is (view_extension c.args.ext.now) c.args.image.now c.args.arch.now c.args.before c.nowhere.result (sym c.word_at.ensures ∙ c.in_default.is) c.nowhere.ensures.pc c.nowhere.ensures.answer
    c.nowhere.ensures.accesses c.nowhere.ensures.before c.nowhere.ensures.blocks c.nowhere.ensures.own

pub returns-clause-step : goal.returns-clause-step
returns-clause-step c =
    let x = view_extension c.args.ext.now in
    let s = c.args.arch.now in
    let found = sym c.word_at.ensures ∙ c.in-Some.is in
    let trial =
    c.try_word-trial.ensures.trial
    ∙ ap (λ i. tried x i s.mem c.return_to-back.result c.decode_in-decoded.result) c.state_at-inputs.ensures
    ∙ ap (λ b. tried x (state_at c.in-Some.word s) s.mem b c.decode_in-decoded.result) c.return_to-back.ensures
    ∙ ap (λ d. tried x (state_at c.in-Some.word s) s.mem (return_to c.in-Some.word s.trap) d) c.decode_in-decoded.ensures.value in
    found_is x c.args.image.now s c.in-Some.word c.args.before _ c.try_word-trial.result found trial (c.trial_laws.ensures.step x c.args.image.now s c.in-Some.word found) refl refl refl refl refl refl
