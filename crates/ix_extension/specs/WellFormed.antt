-- Extensions whose behaviours and constants are typed, and whose encodings and counts break no rule.
use Rattle.std.specs.Prelude.{◌≡◌, None}
use Rattle.ix_tree.specs.declared.extension.Extension.{Extension}
use Rattle.ix_tree.specs.TypedTrees.{TypedTextTree}
use Rattle.ix_typing.specs.Laws.{IsTyped}
use Rattle.ix_extension.specs.Extensions.{ExtensionTree, extension_of, view_extension}
use Rattle.ix_extension.specs.Faults.{first_fault}

-- the extension is that of this typed text, which breaks no rule
pub record IsOf (t : TypedTextTree) (x : ExtensionTree) : Type 0 where
  pub typed : IsTyped t
  pub sound : first_fault t ≡ None
  pub parts : x ≡ extension_of t

-- an extension is well formed where it is that of some typed text which breaks no rule
abbrev pub IsWellFormed : Extension → Type 0
IsWellFormed x = (t : TypedTextTree) × IsOf t (view_extension x)
