use Rattle.std.proofs.Common.{ℕ, ◌∷◌, [], ◌++◌, List, ap, ◌∙◌}
use Rattle.ix_net.specs.declared.netlist.Port.{Port}
use Rattle.ix_graph.specs.declared.role.Role.{Role}
use Rattle.ix_ports.specs.Ports.{read_port}
use Rattle.ix_cells.specs.Naming.{name_of}
use Rattle.ix_netgen.proofs.ports.read.Goals as goal

pub returns-in_ok-push-in-Read : goal.returns-in_ok-push-in-Read
unfolding name_of
returns-in_ok-push-in-Read c =
    c.in_ok-push-in-Read.ensures.items ∙ ap (λ (n : List ℕ). let p : Port = record { name = n; width = c.args.op.now.ty.width } in c.args.ports.now.items ++ p ∷ []) c.in_ok-port-in-Read.ensures
    ∙ ap (λ (r : Role). c.args.ports.now.items ++ read_port c.args.number c.args.op.now r) c.in-Read.ensures
