use Rattle.std.proofs.Common.{◌≡◌, drop, map}
use Rattle.ix_tree.specs.View.{view_decl}
use Rattle.ix_tree.specs.Unrolling.{declares}
use Rattle.ix_unroll.proofs.assigned.declares.Given as goal

abbrev pub invariant-loop-decl : goal.invariant-loop-decl
invariant-loop-decl l = declares l.name (map view_decl l.decls) ≡ declares l.name (map view_decl (drop l.decl-index l.decls))
