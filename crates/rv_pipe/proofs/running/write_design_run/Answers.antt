use Rattle.std.proofs.Common.{subst}
use Rattle.rv_engine.specs.Settings.{first_machine}
use Rattle.rv_machine.specs.DesignText.{IsDesignText}
use Rattle.rv_pipe.specs.Texts.{text_from}
use Rattle.rv_pipe.proofs.Texts.{whole_text}
use Rattle.rv_pipe.proofs.running.write_design_run.Goals as goal

pub returns-in-Ok-tell-clause-whole : goal.returns-in-Ok-tell-clause-whole
returns-in-Ok-tell-clause-whole g c =
    let k = c.in-Ok-new.pipeline.setting in (
      text_from k c.args.cycles (first_machine k),
      subst (λ s. IsDesignText s c.args.cycles (text_from k c.args.cycles (first_machine k))) c.in-Ok-new.ensures.setting (whole_text k c.args.cycles),
      c.in-Ok-tell.ensures.whole,
    )

pub returns-clause-fault : goal.returns-clause-fault
returns-clause-fault g c =
    let k = c.in-Ok-new.pipeline.setting in
    λ _. (
      c.in-Err.ensures.fault,
      (
        text_from k c.args.cycles (first_machine k),
        subst (λ s. IsDesignText s c.args.cycles (text_from k c.args.cycles (first_machine k))) c.in-Ok-new.ensures.setting (whole_text k c.args.cycles),
        c.in-Err.ensures.front,
      ),
    )
