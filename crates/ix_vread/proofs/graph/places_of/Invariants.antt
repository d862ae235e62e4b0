use Rattle.std.proofs.Common.{map, take}
use Rattle.ix_net.specs.Signals.{cell_port}
use Rattle.ix_net.specs.Tables.{Holds}
use Rattle.ix_vread.proofs.graph.places_of.Given as goal

abbrev pub invariant-loop-place : goal.invariant-loop-place
invariant-loop-place l = Holds (take l.place (map cell_port l.cells)) l.places
