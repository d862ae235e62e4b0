use Rattle.std.proofs.Common.{All, take}
use Rattle.ix_vread.specs.Loops.{IsLoopless}
use Rattle.ix_vread.proofs.first.first_loop_in.Given as goal

abbrev pub invariant-loop-net : goal.invariant-loop-net
invariant-loop-net l = All IsLoopless (take l.net-index l.nets)
