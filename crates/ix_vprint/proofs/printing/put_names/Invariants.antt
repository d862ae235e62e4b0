use Rattle.std.proofs.Common.{◌≡◌, ◌++◌, take}
use Rattle.std.specs.List.{flat_map}
use Rattle.ix_vprint.specs.Short.{AreShort}
use Rattle.ix_vprint.specs.Printed.{port_name}
use Rattle.ix_vprint.proofs.printing.put_names.Given as goal

abbrev pub invariant-loop-port : goal.invariant-loop-port
invariant-loop-port l = record {
  so_far : l.out.items ≡ l.initial.out.items ++ flat_map port_name (take l.port-index l.ports);
  short : AreShort (take l.port-index l.ports);
}
