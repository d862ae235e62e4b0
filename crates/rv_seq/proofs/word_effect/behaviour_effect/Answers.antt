use Rattle.ix_extension.specs.Extensions.{view_extension}
use Rattle.rv_seq.proofs.Customs.{wide_targets}
use Rattle.rv_seq.proofs.word_effect.behaviour_effect.Goals as goal

pub eval-requires-clause-widths : goal.eval-requires-clause-widths
eval-requires-clause-widths c = wide_targets (view_extension c.args.ext.now) c.args.which c.args.inputs.now.custom c.requires.wide
