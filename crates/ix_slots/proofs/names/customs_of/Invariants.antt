use Rattle.std.proofs.Common.{◌≤◌, length, drop}
use Rattle.ix_slots.proofs.Finding.{CustomsFrom}
use Rattle.ix_slots.proofs.names.customs_of.Given as goal

abbrev pub invariant-loop-at : goal.invariant-loop-at
invariant-loop-at l = (l.at ≤ length l.registers) × CustomsFrom l.at (drop l.at l.registers) l.customs

abbrev pub decreases-loop-at : goal.decreases-loop-at
decreases-loop-at l = l.at
