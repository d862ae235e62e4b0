use Rattle.std.proofs.Common.{◌≡◌, length}
use Rattle.ix_eval.specs.Scratches.{IsScratchOf}
use Rattle.rv_past.specs.Steps.{AreSteps}
use Rattle.rv_watch.specs.Watched.{tree_of}
use Rattle.rv_watch.proofs.watch.first_steps.Given as goal

abbrev pub invariant-loop : goal.invariant-loop
invariant-loop l = IsScratchOf (tree_of l.against) l.scratch × AreSteps (tree_of l.against) l.against.image.now l.steps × (length l.steps.steps ≡ l.counter)
