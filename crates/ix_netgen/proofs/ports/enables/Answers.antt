use Rattle.std.proofs.Common.{ℕ, ◌∷◌, [], ◌++◌, List, ap, ◌∙◌, arith}
use Rattle.ix_net.specs.declared.netlist.Port.{Port}
use Rattle.ix_ports.specs.Ports.{enable_ports}
use Rattle.ix_cells.specs.Naming.{name_of}
use Rattle.ix_netgen.proofs.PortLemmas.{enables_next}
use Rattle.ix_netgen.proofs.ports.enables.Goals as goal

pub loop-time-preserved : goal.loop-time-preserved
unfolding name_of
loop-time-preserved c =
    enables_next c.loop-time.ports.items c.push.new.self.items (enable_ports c.args.rd c.args.last) c.loop-time.time c.args.last (omega arith)
    (c.in_ok-push.ensures.items ∙ ap (λ (n : List ℕ). let p : Port = record { name = n; width = 1 } in c.loop-time.ports.items ++ p ∷ []) c.in_ok-port.ensures) c.loop-time.invariant
