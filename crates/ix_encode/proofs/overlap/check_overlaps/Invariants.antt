use Rattle.std.proofs.Common.{◌≡◌, map, length}
use Rattle.ix_extension.specs.Extensions.{view_instruction}
use Rattle.ix_extension.specs.Faults.{overlap_fault}
use Rattle.ix_encode.proofs.overlap.check_overlaps.Given as goal

abbrev pub invariant-loop-x : goal.invariant-loop-x
invariant-loop-x l = overlap_fault (map view_instruction l.all) ≡ overlap_fault (map view_instruction l.left)

abbrev pub decreases-loop-x : goal.decreases-loop-x
decreases-loop-x l = length l.left
