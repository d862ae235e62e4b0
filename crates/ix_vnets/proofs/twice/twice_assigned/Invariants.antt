use Rattle.std.proofs.Common.{map, take}
use Rattle.ix_verilog.specs.declared.source.Assign.{Assign}
use Rattle.ix_vnets.specs.Sets.{IsSet}
use Rattle.ix_vnets.proofs.twice.twice_assigned.Given as goal

abbrev pub invariant-loop-assign : goal.invariant-loop-assign
invariant-loop-assign l = IsSet l.seen (map (λ (x : Assign). x.target) (take l.assign-index l.assigns))
