use Rattle.std.proofs.Common.{◌++◌, List, [], ◌∷◌}
use Rattle.ix_sheet.specs.declared.problem.Bound.TheVariants.{Early}
use Rattle.ix_problem.proofs.bounds.push_earlies.Goals as goal
use Rattle.std.proofs.Common.{ap, ◌∙◌}
use Rattle.ix_sheet.specs.declared.problem.Bound.{Bound}
use Rattle.ix_problem.proofs.Lists.{map_range_push}

pub ops-preserved : goal.ops-preserved
ops-preserved c = c.in_ok-push.ensures.ok ∙ ap (λ (xs : List Bound). xs ++ Early c.ops.op ∷ []) c.ops.invariant ∙ map_range_push Early c.args.bounds.now c.ops.op
