use Rattle.std.proofs.Common.{◌≡◌, ℕ, ◌<◌, map, take}
use Rattle.ix_sheet.specs.Bounds.{arc_of}
use Rattle.ix_residual.specs.Residuals.{bound_at}
use Rattle.ix_solve.specs.Answers.{FitsByte}
use Rattle.ix_solve.proofs.bounds.arcs_of.Given as goal

abbrev pub invariant-bounds : goal.invariant-bounds
invariant-bounds l = record {
  are : l.arcs.items ≡ map (arc_of l.p) (take l.bound-index l.bounds);
  bytes : (k : ℕ) → k < l.bound-index → FitsByte (bound_at l.bounds k) (arc_of l.p (bound_at l.bounds k));
}
