use Rattle.std.proofs.Common.{◌≢◌, map, take, AllPairs}
use Rattle.ix_net.specs.Valid.{names}
use Rattle.ix_net.specs.Tables.{port_of, Holds}
use Rattle.ix_net.proofs.tables.number.Given as goal

abbrev pub invariant-loop-place : goal.invariant-loop-place
invariant-loop-place l = record {
  held : Holds (take l.place (map port_of l.signals)) l.places;
  distinct : AllPairs (λ x y. x ≢ y) (take l.place (names (map port_of l.signals)));
}
