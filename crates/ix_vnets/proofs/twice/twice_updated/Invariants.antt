use Rattle.std.proofs.Common.{map, take}
use Rattle.ix_verilog.specs.declared.source.Update.{Update}
use Rattle.ix_vnets.specs.Sets.{IsSet}
use Rattle.ix_vnets.proofs.twice.twice_updated.Given as goal

abbrev pub invariant-loop-update : goal.invariant-loop-update
invariant-loop-update l = IsSet l.seen (map (λ (x : Update). x.target) (take l.update-index l.updates))
