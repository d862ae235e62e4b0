use Rattle.std.proofs.Common.{◌≤◌, length}
use Rattle.ix_cells.specs.Tables.{ArePlaces}
use Rattle.ix_cells.proofs.lookups.first_places.Given as goal

abbrev pub invariant-loop-place : goal.invariant-loop-place
invariant-loop-place l = (l.place ≤ length l.entries) × ArePlaces l.entries l.places

abbrev pub decreases-loop-place : goal.decreases-loop-place
decreases-loop-place l = l.place
