use Rattle.std.proofs.Common.{◌≡◌, ◌++◌, take}
use Rattle.std.specs.List.{flat_map}
use Rattle.ix_cert.specs.Layout.{field}
use Rattle.ix_cert.proofs.print.put_path.Given as goal

abbrev pub invariant-loop-op : goal.invariant-loop-op
invariant-loop-op l = record {
  so_far : l.out.items ≡ l.initial.out.items ++ flat_map field (take l.op-index l.path);
}
