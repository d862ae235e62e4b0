use Rattle.ix_extension.specs.Extensions.{view_extension}
use Rattle.behaviour_cases.proofs.Widths.{wide_targets}
use Rattle.behaviour_cases.proofs.effects.effect_of.Goals as goal

pub eval-requires-clause-widths : goal.eval-requires-clause-widths
eval-requires-clause-widths c =
    wide_targets (view_extension c.args.extension.now) c.args.case.now.which c.values.result
    (rw c.as_slice.ensures at c.values.ensures)
