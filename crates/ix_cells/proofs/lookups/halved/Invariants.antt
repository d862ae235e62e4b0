use Rattle.ix_cells.specs.Tables.{Halves}
use Rattle.ix_cells.proofs.lookups.halved.Given as goal

abbrev pub invariant-loop-place : goal.invariant-loop-place
invariant-loop-place l = Halves l.initial.net l.net l.wires l.bit l.halves.items l.place
