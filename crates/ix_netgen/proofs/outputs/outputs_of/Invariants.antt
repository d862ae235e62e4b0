use Rattle.std.proofs.Common.{drop}
use Rattle.ix_ports.specs.Ports.{letters_of}
use Rattle.ix_netgen.specs.Outputs.{op_cells, op_ports, StillPuts}
use Rattle.ix_netgen.proofs.outputs.outputs_of.Given as goal

abbrev pub invariant-loop-place : goal.invariant-loop-place
invariant-loop-place l =
    StillPuts l.initial.net l.net (op_cells l.number (letters_of l.kind) l.operands) (op_cells l.number (drop l.place (letters_of l.kind)) (drop l.place l.operands))
    (op_ports l.number (letters_of l.kind) l.operands) (op_ports l.number (drop l.place (letters_of l.kind)) (drop l.place l.operands))
