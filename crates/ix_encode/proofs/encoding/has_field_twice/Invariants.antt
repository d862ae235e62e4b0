use Rattle.std.proofs.Common.{◌≡◌, length}
use Rattle.ix_extension.specs.Encodings.{has_field_twice}
use Rattle.ix_encode.proofs.encoding.has_field_twice.Given as goal

abbrev pub invariant-loop-piece : goal.invariant-loop-piece
invariant-loop-piece l = has_field_twice l.left ≡ has_field_twice l.pieces

abbrev pub decreases-loop-piece : goal.decreases-loop-piece
decreases-loop-piece l = length l.left
