use Rattle.std.proofs.Common.{◌≡◌, map, drop}
use Rattle.ix_extension.specs.Extensions.{view_instruction}
use Rattle.ix_extension.specs.Faults.{overlap_with}
use Rattle.ix_encode.proofs.overlap.check_pairs.Given as goal

abbrev pub invariant-loop-y : goal.invariant-loop-y
invariant-loop-y l = overlap_with (view_instruction l.x) (map view_instruction l.others) ≡ overlap_with (view_instruction l.x) (map view_instruction (drop l.y-index l.others))
