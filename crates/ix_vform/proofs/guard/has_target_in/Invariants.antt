use Rattle.ix_verilog.specs.Subset.{IsTarget}
use Rattle.ix_vform.proofs.Named.{NonePassed}
use Rattle.ix_vform.proofs.guard.has_target_in.Given as goal

abbrev pub invariant-loop-port : goal.invariant-loop-port
invariant-loop-port l = NonePassed (IsTarget l.opened) l.ports l.port-index
