use Rattle.std.proofs.Common.{◌≤◌, length, drop}
use Rattle.ix_slots.proofs.Finding.{TablesFrom}
use Rattle.ix_slots.proofs.names.numbers_of.Given as goal

abbrev pub invariant-loop-at : goal.invariant-loop-at
invariant-loop-at l = (l.at ≤ length l.tables) × TablesFrom l.at (drop l.at l.tables) l.numbers

abbrev pub decreases-loop-at : goal.decreases-loop-at
decreases-loop-at l = l.at
