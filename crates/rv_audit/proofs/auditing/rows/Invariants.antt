use Rattle.ix_eval.specs.Scratches.{IsScratchOf}
use Rattle.rv_watch.specs.Watched.{tree_of}
use Rattle.rv_audit.specs.Refused.{AreRightTo}
use Rattle.rv_audit.proofs.auditing.rows.Given as goal

abbrev pub invariant-loop-at : goal.invariant-loop-at
invariant-loop-at l = record {
  scratch : IsScratchOf (tree_of l.against) l.scratch;
  right : AreRightTo l.against l.text l.read.rows l.at l.watch;
}
