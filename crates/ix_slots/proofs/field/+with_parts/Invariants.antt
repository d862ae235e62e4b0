use Rattle.std.proofs.Common.{length}
use Rattle.ix_slots.proofs.field.+with_parts.Given as goal

abbrev pub decreases-with_parts : goal.decreases-with_parts
decreases-with_parts l = length l.parts.now
