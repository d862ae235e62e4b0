use Rattle.std.proofs.Common.{refl}
use Rattle.ix_extension.specs.Extensions.{view_extension}
use Rattle.rv_past.proofs.Growing.{none_so_far}
use Rattle.rv_past.proofs.steps.Steps.new.Goals as goal

pub returns-clause-steps : goal.returns-clause-steps
returns-clause-steps c = λ image. none_so_far (view_extension c.args.ext.now) image _ c.new-2.ensures c.in_ok-ahead.ensures.first refl c.in_ok-ahead.ensures.wide
