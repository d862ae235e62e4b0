use Rattle.std.proofs.Common.{◌≡◌, ◌++◌, [], ◌∷◌, take}
use Rattle.std.specs.List.{flat_map}
use Rattle.ix_cert.specs.Layout.{cycle_line}
use Rattle.ix_cert.proofs.print.put_cycle.Given as goal

abbrev pub invariant-loop-bound : goal.invariant-loop-bound
invariant-loop-bound l = record {
  so_far : l.out.items ≡ l.initial.out.items ++ flat_map (λ bound. cycle_line bound ++ 10 ∷ []) (take l.bound-index l.cycle);
}
