use Rattle.std.proofs.Common.{◌≡◌, length}
use Rattle.ix_mean.specs.ByName.{stands_at_15}
use Rattle.ix_slots.proofs.field.stands_at_15.Given as goal

abbrev pub invariant-loop-piece : goal.invariant-loop-piece
invariant-loop-piece l = stands_at_15 l.left l.name ≡ stands_at_15 l.pieces l.name

abbrev pub decreases-loop-piece : goal.decreases-loop-piece
decreases-loop-piece l = length l.left
