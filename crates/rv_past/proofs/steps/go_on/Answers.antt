use Rattle.std.proofs.Common.{sym, subst}
use Rattle.ix_extension.specs.Extensions.{view_extension}
use Rattle.rv_seq.specs.WordEffects.{AreWide}
use Rattle.rv_seq.specs.declared.arch.Arch.{Arch}
use Rattle.rv_seq.specs.declared.answer.StepAnswer.{StepAnswer}
use Rattle.rv_seq.specs.Sound.{IsSound, IsSoundCommit}
use Rattle.rv_seq.proofs.Wide.{wide_applied}
use Rattle.rv_past.proofs.steps.go_on.Goals as goal

pub returns-in-Done-clause-wide : goal.returns-in-Done-clause-wide
returns-in-Done-clause-wide c =
    let x = view_extension c.args.ext.now in
    let s : IsSoundCommit x c.in-Done.commit = subst (λ (a : StepAnswer). IsSound x a) c.in-Done.is c.requires.sound in
    subst (λ (a : Arch). AreWide x a.custom) (sym c.apply.ensures) (wide_applied x c.in-Done.commit c.args.arch.now c.requires.wide s.wide)
