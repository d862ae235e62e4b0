use Rattle.std.proofs.Common.{◌≡◌, map, take}
use Rattle.ix_bits.specs.declared.number.Bits.{Bits}
use Rattle.ix_net.specs.declared.netlist.Port.{Port}
use Rattle.ix_neteval.proofs.sim.are_of_widths.Given as goal

abbrev pub invariant-loop-i : goal.invariant-loop-i
invariant-loop-i l = map (λ (b : Bits). b.width) (take l.i l.inputs) ≡ map (λ (p : Port). p.width) (take l.i l.ports)
