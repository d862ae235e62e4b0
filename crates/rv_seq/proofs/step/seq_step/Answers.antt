use Rattle.std.proofs.Common.{◌≡◌, ◌∙◌, sym, ap, subst, true}
use Rattle.ix_extension.specs.Extensions.{view_extension}
use Rattle.rv_seq.specs.WordEffects.{AreWide}
use Rattle.rv_seq.specs.declared.arch.Arch.{Arch}
use Rattle.rv_seq.specs.declared.answer.StepAnswer.{StepAnswer}
use Rattle.rv_seq.specs.Interrupts.{resumed}
use Rattle.rv_seq.specs.Sound.{IsSound, IsSoundCommit}
use Rattle.rv_seq.proofs.Wide.{wide_applied}
use Rattle.rv_seq.proofs.step.seq_step.Goals as goal

pub returns-then-is_return-clause-wide : goal.returns-then-is_return-clause-wide
returns-then-is_return-clause-wide c =
    let x = view_extension c.args.ext.now in
    let commit = c.in-Done.commit in
    let s : IsSoundCommit x commit = subst (λ (a : StepAnswer). IsSound x a) c.in-Done.is c.answer_to-answer.ensures.sound in
    subst (λ (a : Arch). AreWide x a.custom) (sym (c.resume.ensures ∙ ap (λ (a : Arch). resumed true a) c.apply.ensures)) (wide_applied x commit c.args.arch.now c.requires.wide s.wide)

pub returns-else-is_return-clause-wide : goal.returns-else-is_return-clause-wide
returns-else-is_return-clause-wide c =
    let x = view_extension c.args.ext.now in
    let commit = c.in-Done.commit in
    let s : IsSoundCommit x commit = subst (λ (a : StepAnswer). IsSound x a) c.in-Done.is c.answer_to-answer.ensures.sound in
    subst (λ (a : Arch). AreWide x a.custom) (sym c.apply.ensures) (wide_applied x commit c.args.arch.now c.requires.wide s.wide)
