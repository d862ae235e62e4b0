use Rattle.std.proofs.Common.{◌≡◌, ◌-◌, Some}
use Rattle.std.specs.Prelude.{slice_get}
use Rattle.ix_netgen.specs.Standing.{Holds}
use Rattle.ix_netgen.proofs.banks.hold.Given as goal

abbrev pub invariant-loop-time : goal.invariant-loop-time
invariant-loop-time l = record {
  holds : Holds l.number l.fn.wire l.from l.time l.fn.net l.net l.wires.items;
  here : slice_get l.wires.items (l.time - l.from) ≡ Some l.current;
}
