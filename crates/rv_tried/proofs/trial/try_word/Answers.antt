use Rattle.std.proofs.Common.{sym, subst, Some, None}
use Rattle.ix_extension.specs.Extensions.{view_extension}
use Rattle.rv_tried.specs.declared.trial.Trial.{Trial}
use Rattle.rv_tried.specs.Tried.{tried}
use Rattle.rv_tried.specs.Whole.{AreBlocksWide}
use Rattle.rv_tried.proofs.trial.try_word.Goals as goal

pub returns-in-Some-clause-wide : goal.returns-in-Some-clause-wide
unfolding tried
returns-in-Some-clause-wide c =
    let x = view_extension c.args.ext.now in
    subst (λ (t : Trial). AreBlocksWide x t.blocks) (sym c.try_instruction.ensures.trial) (c.trial_laws.ensures.wide x c.args.inputs.now c.args.memory.now c.args.back (Some c.in-Some.decoded))

pub returns-in-None-clause-wide : goal.returns-in-None-clause-wide
unfolding tried
returns-in-None-clause-wide c =
    let x = view_extension c.args.ext.now in
    subst (λ (t : Trial). AreBlocksWide x t.blocks) (sym c.try_unknown.ensures.trial) (c.trial_laws.ensures.wide x c.args.inputs.now c.args.memory.now c.args.back None)
