use Rattle.std.proofs.Common.{◌∙◌, sym, ap}
use Rattle.ix_extension.specs.Extensions.{view_extension}
use Rattle.rv_seq.specs.declared.answer.StepAnswer.{StepAnswer}
use Rattle.rv_seq.specs.Steps.{after}
use Rattle.rv_text.proofs.Parts.{goes, stops}
use Rattle.rv_text.proofs.run_writing.step_told.Goals as goal

pub returns-in-Done-clause-goes_on : goal.returns-in-Done-clause-goes_on
returns-in-Done-clause-goes_on c = λ _ n.
    goes (view_extension c.args.ext.now) c.args.image.now n c.args.number c.args.arch.now c.seq_step.new.arch c.in-Done.commit c.args.out.now c.put_step.new.out
    (sym c.seq_step.ensures.answer ∙ c.in-Done.is) c.put_step.ensures.text (c.seq_step.ensures.state ∙ ap (λ (a : StepAnswer). after (view_extension c.args.ext.now) c.args.arch.now a) c.in-Done.is)

pub returns-in-Stopped-clause-stops : goal.returns-in-Stopped-clause-stops
returns-in-Stopped-clause-stops c = λ _ n.
    stops (view_extension c.args.ext.now) c.args.image.now n c.args.number c.args.arch.now c.seq_step.new.arch c.in-Stopped.stop c.args.out.now c.put_stop_line.new.out
    (sym c.seq_step.ensures.answer ∙ c.in-Stopped.is) c.put_stop_line.ensures.text (c.seq_step.ensures.state ∙ ap (λ (a : StepAnswer). after (view_extension c.args.ext.now) c.args.arch.now a) c.in-Stopped.is)
