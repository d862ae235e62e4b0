use Rattle.std.proofs.Common.{length}
use Rattle.ix_slots.proofs.field.+parts_of.Given as goal

abbrev pub decreases-parts_of : goal.decreases-parts_of
decreases-parts_of l = length l.pieces.now
