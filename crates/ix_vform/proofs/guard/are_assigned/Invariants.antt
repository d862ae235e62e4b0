use Rattle.std.proofs.Common.{map, Contains}
use Rattle.ix_verilog.specs.declared.source.Assign.{Assign}
use Rattle.ix_vform.proofs.Named.{EachPassed}
use Rattle.ix_vform.proofs.guard.are_assigned.Given as goal

abbrev pub invariant-loop-port : goal.invariant-loop-port
invariant-loop-port l = EachPassed (λ n. Contains (map (λ (a : Assign). a.target) l.opened.assigns) n) l.ports l.port-index
