use Rattle.std.proofs.Common.{map, List}
use Rattle.ix_cert.specs.Faults.{times_of}
use Rattle.ix_cert.proofs.steps.delays_within_times.Goals as goal
use Rattle.std.proofs.Common.{◌∙◌, ap}
use Rattle.ix_sheet.specs.declared.problem.Node.{Node}
use Rattle.ix_cert.proofs.Paths.{begun}

pub follow_edges-requires-clause-begun : goal.follow_edges-requires-clause-begun
follow_edges-requires-clause-begun c =
    begun c.args.b.now.problem (times_of c.args.b.now) c.as_mut_slice.result.now
    (c.as_mut_slice.ensures.value ∙ c.in-Ok.ensures.are ∙ ap (λ (xs : List Node). map (λ (node : Node). node.delay) xs) c.as_slice-ops.ensures)
