use Rattle.std.proofs.Common.{List, ◌++◌, map, take}
use Rattle.ix_net.specs.declared.netlist.Port.{Port}
use Rattle.ix_verilog.specs.Words.{Word}
use Rattle.ix_vnets.specs.Sets.{IsSet}
use Rattle.ix_vnets.proofs.twice.see_ports.Given as goal

abbrev pub invariant-loop-port : goal.invariant-loop-port
invariant-loop-port l = (front : List Word) → IsSet l.initial.seen front → IsSet l.seen (front ++ map (λ (p : Port). p.name) (take l.port-index l.ports))
