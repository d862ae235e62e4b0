use Rattle.std.specs.Prelude.{sum_by}
use Rattle.ix_residual.specs.Residuals.{need_of}
use Rattle.ix_solve.specs.Forests.{AreTouching}
use Rattle.ix_solve.specs.State.{IsState, IsReplay, IsNetworkOf}
use Rattle.ix_solve.proofs.meet.meet.Given as goal

abbrev pub invariant-paths : goal.invariant-paths
invariant-paths l = record {
  state : IsState l.fn.p l.fn.bounds l.residual;
  replay : IsReplay l.fn.p l.fn.bounds l.residual l.paths;
  network : IsNetworkOf l.fn.p l.fn.bounds l.network;
  touching : AreTouching l.network.root l.network.bounds l.lists.items;
}

abbrev pub decreases-paths : goal.decreases-paths
decreases-paths l = sum_by need_of l.residual.left
