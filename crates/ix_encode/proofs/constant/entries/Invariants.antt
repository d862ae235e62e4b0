use Rattle.std.proofs.Common.{◌≡◌, ◌++◌, map, drop}
use Rattle.ix_tree.specs.TypedView.{typed_view}
use Rattle.ix_extension.specs.Extensions.{entry}
use Rattle.ix_encode.proofs.constant.entries.Given as goal

abbrev pub invariant-loop-e : goal.invariant-loop-e
invariant-loop-e l = l.out ++ map (entry l.ty) (map typed_view (drop l.e-index l.all)) ≡ map (entry l.ty) (map typed_view l.all)
