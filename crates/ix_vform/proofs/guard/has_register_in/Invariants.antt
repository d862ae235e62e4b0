use Rattle.ix_verilog.specs.Subset.{IsRegister}
use Rattle.ix_vform.proofs.Named.{NonePassed}
use Rattle.ix_vform.proofs.guard.has_register_in.Given as goal

abbrev pub invariant-loop-port : goal.invariant-loop-port
invariant-loop-port l = NonePassed (IsRegister l.opened) l.ports l.port-index
