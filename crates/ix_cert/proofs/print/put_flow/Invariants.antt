use Rattle.std.proofs.Common.{◌≡◌, ◌++◌, [], ◌∷◌, take}
use Rattle.std.specs.List.{flat_map}
use Rattle.ix_cert.specs.Layout.{flow_line}
use Rattle.ix_cert.proofs.print.put_flow.Given as goal

abbrev pub invariant-loop-bound : goal.invariant-loop-bound
invariant-loop-bound l = record {
  so_far : l.out.items ≡ l.initial.out.items ++ flat_map (λ c. flow_line c ++ 10 ∷ []) (take l.bound-index l.flow);
}
