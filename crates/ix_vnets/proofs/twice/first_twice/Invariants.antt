use Rattle.std.proofs.Common.{List, map, take, drop, []}
use Rattle.ix_verilog.specs.declared.source.Source.{Source}
use Rattle.ix_vnets.specs.Sets.{IsSet}
use Rattle.ix_vnets.proofs.Saying.{Rests}
use Rattle.ix_vnets.proofs.twice.first_twice.Given as goal

abbrev pub invariant-loop-source : goal.invariant-loop-source
invariant-loop-source l = record {
  set : IsSet l.seen (map (λ (s : Source). s.name) (take l.source-index l.modules));
  rests : Rests (map (λ (s : Source). s.name) (take l.source-index l.modules)) (drop l.source-index l.modules) l.modules;
}
