use Rattle.std.proofs.Common.{◌≡◌, All, map, take}
use Rattle.ix_net.specs.declared.netlist.Port.{Port}
use Rattle.ix_net.specs.Signals.{number_of}
use Rattle.ix_net.specs.Wiring.{IsCellPort}
use Rattle.ix_net.proofs.wires.outputs_of.Given as goal

abbrev pub invariant-loop-output : goal.invariant-loop-output
invariant-loop-output l = record {
  fit : All (IsCellPort l.table l.inputs l.cells) (take l.output-index l.outputs);
  made : l.places.items ≡ map (λ (p : Port). number_of l.table p.name) (take l.output-index l.outputs);
}
