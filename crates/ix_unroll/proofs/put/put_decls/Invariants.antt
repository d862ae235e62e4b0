use Rattle.std.proofs.Common.{◌≡◌, ◌++◌, map, drop}
use Rattle.ix_tree.specs.declared.stmt.Decl.{Decl}
use Rattle.ix_tree.specs.View.{view_decl}
use Rattle.ix_tree.specs.Unrolling.{put_decl}
use Rattle.ix_unroll.specs.Scopes.{bindings}
use Rattle.ix_unroll.proofs.put.put_decls.Given as goal

-- the declarations that are copied, and those to be copied
abbrev pub invariant-loop-decl : goal.invariant-loop-decl
invariant-loop-decl l =
    let made = λ (d : Decl). put_decl (bindings l.scope) (view_decl d) in
    map view_decl l.all.items ++ map made (drop l.decl-index l.decls) ≡ map made l.decls
