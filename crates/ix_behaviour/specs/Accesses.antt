-- Types of what is read from memory and stored (CoreDSL 2, address spaces: memory has bytes; that an access has one, two or four is this project's choice).
use Rattle.std.specs.Prelude.{◌≡◌}
use Rattle.ix_bits.specs.declared.number.Ty.{Ty}
use Rattle.ix_graph.specs.Graphs.{IsLoadable}
use Rattle.ix_tree.specs.TypedTrees.{TypedTextTree}
use Rattle.ix_extension.specs.Extensions.{ExtensionTree}
use Rattle.ix_extension.specs.WellFormed.{IsOf}
use Rattle.ix_mean.specs.Core.{Expression, x_const, x_slot, x_read, x_load, x_one, x_cast, x_entry, x_two, x_choose, Statement, st_skip, st_then, st_set, st_write, st_if}
use Rattle.ix_behaviour.specs.declared.which.Which.{Which}
use Rattle.ix_behaviour.specs.Behaviours.{HasBehaviour, stored_type, statement_at}

-- the type of a byte, a half word or a word: unsigned, of 8, 16 or 32 bits
abbrev pub IsAccessType : Ty → Type 0
IsAccessType ty = IsLoadable ty

-- each read of memory in an expression has such a type
abbrev pub LoadsAreTyped : Expression → Type 0
LoadsAreTyped (x_const ty raw) = Unit {0}
LoadsAreTyped (x_slot k ty) = Unit {0}
LoadsAreTyped (x_read k ty) = Unit {0}
LoadsAreTyped (x_load ty a) = IsAccessType ty × LoadsAreTyped a
LoadsAreTyped (x_one k ty a) = LoadsAreTyped a
LoadsAreTyped (x_cast ty a) = LoadsAreTyped a
LoadsAreTyped (x_entry n es ty a) = LoadsAreTyped a
LoadsAreTyped (x_two op ty a b) = LoadsAreTyped a × LoadsAreTyped b
LoadsAreTyped (x_choose ty c a b) = LoadsAreTyped c × LoadsAreTyped a × LoadsAreTyped b

-- each read and each store of memory, which is target 0, in a statement
abbrev pub AccessesAreTyped : Statement → Type 0
AccessesAreTyped st_skip = Unit {0}
AccessesAreTyped (st_then x y) = AccessesAreTyped x × AccessesAreTyped y
AccessesAreTyped (st_set k ty e) = LoadsAreTyped e
AccessesAreTyped (st_write k ty e a) = (k ≡ 0 → IsAccessType ty) × LoadsAreTyped e × LoadsAreTyped a
AccessesAreTyped (st_if c x y) = LoadsAreTyped c × AccessesAreTyped x × AccessesAreTyped y

-- ---- laws of the behaviours of an extension that breaks no rule
abbrev pub AccessesLaw : Type 0
AccessesLaw = (t : TypedTextTree) (x : ExtensionTree) (w : Which) → IsOf t x → HasBehaviour x w → AccessesAreTyped (statement_at x w)

-- the type of what is stored, where nothing is stored a byte's
abbrev pub StoredTypeLaw : Type 0
StoredTypeLaw = (t : TypedTextTree) (x : ExtensionTree) (w : Which) → IsOf t x → HasBehaviour x w → IsAccessType (stored_type (statement_at x w))
