use Rattle.std.proofs.Common.{◌≡◌, [], drop, map}
use Rattle.ix_tree.specs.TypedView.{typed_decl}
use Rattle.ix_slots.specs.Found.{entries_of}
use Rattle.ix_slots.specs.Made.{made_declarations}
use Rattle.ix_slots.specs.Spawned.{spawned_among}
use Rattle.ix_slots.proofs.Chains.{prefixed}
use Rattle.ix_slots.proofs.statement.declarations.Given as goal

abbrev pub invariant-loop-decl : goal.invariant-loop-decl
invariant-loop-decl l =
    (prefixed (entries_of l.names.tables) l.all (made_declarations l.names l.ty (map typed_decl (drop l.decl-index l.decls)) l.locals)
    ≡ made_declarations l.names l.ty (map typed_decl l.decls) l.fn.locals)
    × (spawned_among l.all ≡ [])
