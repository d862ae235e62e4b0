use Rattle.std.proofs.Common.{◌≡◌, map, drop}
use Rattle.ix_tree.specs.View.{view_decl}
use Rattle.ix_tree.specs.TypedView.{typed_decl}
use Rattle.ix_typing.specs.Statements.{judged_decls}
use Rattle.ix_typing.proofs.Listed.{behind}
use Rattle.ix_check_parts.proofs.locals.declarations.Given as goal

-- what is judged of all is what is judged of the rest, behind what was made
abbrev pub invariant-loop-decl : goal.invariant-loop-decl
invariant-loop-decl l =
    judged_decls l.setting l.ty (map view_decl l.decls) l.fn.state ≡ behind (map typed_decl l.out.items) (judged_decls l.setting l.ty (map view_decl (drop l.decl-index l.decls)) l.state)
