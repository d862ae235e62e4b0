use Rattle.std.proofs.Common.{map, Contains}
use Rattle.ix_verilog.specs.declared.source.Update.{Update}
use Rattle.ix_vform.proofs.Named.{EachPassed}
use Rattle.ix_vform.proofs.guard.are_updated.Given as goal

abbrev pub invariant-loop-port : goal.invariant-loop-port
invariant-loop-port l = EachPassed (λ n. Contains (map (λ (u : Update). u.target) l.opened.updates) n) l.ports l.port-index
