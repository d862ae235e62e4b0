use Rattle.std.proofs.Common.{◌≡◌, ◌++◌, take}
use Rattle.std.specs.Prelude.{All}
use Rattle.std.specs.List.{flat_map}
use Rattle.ix_net.specs.Valid.{IsWidth}
use Rattle.ix_vprint.specs.Printed.{port_text}
use Rattle.ix_vprint.proofs.printing.put_ports.Given as goal

abbrev pub invariant-loop-port : goal.invariant-loop-port
invariant-loop-port l = record {
  so_far : l.out.items ≡ l.initial.out.items ++ flat_map (port_text l.front) (take l.port-index l.ports);
  widths : All (λ p. IsWidth p.width) l.ports;
}
