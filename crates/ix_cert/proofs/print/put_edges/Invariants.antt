use Rattle.std.proofs.Common.{◌≡◌, ◌++◌, [], ◌∷◌, take}
use Rattle.std.specs.List.{flat_map}
use Rattle.ix_cert.specs.Layout.{edge_line}
use Rattle.ix_cert.proofs.print.put_edges.Given as goal

abbrev pub invariant-loop-from : goal.invariant-loop-from
invariant-loop-from l = record {
  so_far : l.out.items ≡ l.initial.out.items ++ flat_map (λ e. edge_line e ++ 10 ∷ []) (take l.from-index l.edges);
}
