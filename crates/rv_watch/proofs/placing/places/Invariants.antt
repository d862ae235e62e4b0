use Rattle.std.proofs.Common.{◌≡◌, ◌<◌, ℕ, Some, drop, length}
use Rattle.std.specs.Prelude.{slice_get}
use Rattle.rv_watch.specs.Places.{first_place}
use Rattle.rv_watch.proofs.placing.places.Given as goal

abbrev pub invariant-loop-stage : goal.invariant-loop-stage
invariant-loop-stage l = (length l.places ≡ 5) × ((i : ℕ) → i < l.stage → slice_get l.places i ≡ Some (first_place l.retired l.seen l.row.flushed (drop i l.cells)))
