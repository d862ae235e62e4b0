use Rattle.std.proofs.Common.{drop}
use Rattle.ix_netgen.specs.Outputs.{all_cells, all_ports, StillPuts}
use Rattle.ix_netgen.proofs.outputs.outputs.Given as goal

abbrev pub invariant-loop-number : goal.invariant-loop-number
invariant-loop-number l =
    StillPuts l.initial.net l.net (all_cells 0 l.ops l.kept) (all_cells l.number (drop l.number l.ops) (drop l.number l.kept))
    (all_ports 0 l.ops l.kept) (all_ports l.number (drop l.number l.ops) (drop l.number l.kept))
