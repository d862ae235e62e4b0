use Rattle.std.proofs.Common.{sym, subst}
use Rattle.std.specs.Prelude.{Option, Some}
use Rattle.ix_extension.specs.Extensions.{view_extension}
use Rattle.rv_seq.specs.WordEffects.{AreWide}
use Rattle.rv_seq.specs.declared.arch.Arch.{Arch}
use Rattle.rv_seq.specs.declared.answer.StepAnswer.{StepAnswer}
use Rattle.rv_seq.specs.Sound.{IsSound, IsSoundCommit}
use Rattle.rv_seq.proofs.Wide.{wide_applied}
use Rattle.rv_past.specs.declared.step.Step.{Step}
use Rattle.rv_barrel.specs.declared.cell.InFlight.{InFlight}
use Rattle.rv_barrel.specs.Moving.{IsSoundSlot, IsSoundStep}
use Rattle.rv_barrel.proofs.moving.go_on.Goals as goal

pub returns-in-Done-clause-wide : goal.returns-in-Done-clause-wide
returns-in-Done-clause-wide c =
    let x = view_extension c.args.design.now.extension in
    let slot : IsSoundSlot x (Some c.in-Some.one) = subst (λ (s : Option InFlight). IsSoundSlot x s) c.in-Some.is c.requires.sound in
    let step : IsSoundStep x (Some c.in-Some-step.step) = subst (λ (s : Option Step). IsSoundStep x s) c.in-Some-step.is slot in
    let s : IsSoundCommit x c.in-Done.commit = subst (λ (a : StepAnswer). IsSound x a) c.in-Done.is step in
    subst (λ (a : Arch). AreWide x a.custom) (sym c.apply.ensures) (wide_applied x c.in-Done.commit c.args.ahead.now c.requires.wide s.wide)
