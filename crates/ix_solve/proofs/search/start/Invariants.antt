use Rattle.ix_solve.specs.Search.{IsBegun}
use Rattle.ix_solve.proofs.search.start.Given as goal

abbrev pub invariant-loop-node : goal.invariant-loop-node
invariant-loop-node l = IsBegun l.root l.source l.arcs l.node 0 l.begun
