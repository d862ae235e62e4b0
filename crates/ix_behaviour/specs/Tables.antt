-- Reads of tables, and the widths of their entries (CoreDSL 2, constants; that an entry has its table's type is this project's choice).
use Rattle.std.specs.Prelude.{◌≡◌, ℕ, List, map, All, Some, slice_get}
use Rattle.ix_bits.specs.declared.number.Ty.{Ty}
use Rattle.ix_bits.specs.declared.number.Bits.{Bits}
use Rattle.ix_tree.specs.declared.extension.Table.{Table}
use Rattle.ix_tree.specs.TypedTrees.{TypedTextTree}
use Rattle.ix_extension.specs.Extensions.{ExtensionTree}
use Rattle.ix_extension.specs.WellFormed.{IsOf}
use Rattle.ix_mean.specs.Core.{Expression, x_const, x_slot, x_read, x_load, x_one, x_cast, x_entry, x_two, x_choose, Statement, st_skip, st_then, st_set, st_write, st_if}
use Rattle.ix_mean.specs.View.{raw_of}
use Rattle.ix_behaviour.specs.declared.which.Which.{Which}
use Rattle.ix_behaviour.specs.Behaviours.{HasBehaviour, statement_at}

-- the entries are patterns of the width of a type
abbrev pub HaveWidthOf : Ty → List Bits → Type 0
HaveWidthOf ty es = All (λ e. e.width ≡ ty.width) es

-- a read of a table by its number: the table has these patterns, of the width of this type
pub record IsTableRead (ts : List Table) (n : ℕ) (es : List ℕ) (ty : Ty) : Type 0 where
  pub table : Table
  pub there : slice_get ts n ≡ Some table
  pub patterns : es ≡ map raw_of table.entries
  pub widths : HaveWidthOf ty table.entries

-- each entry that an expression reads is one of a table of its type
abbrev pub EntriesAreRead : List Table → Expression → Type 0
EntriesAreRead ts (x_const ty raw) = Unit {0}
EntriesAreRead ts (x_slot k ty) = Unit {0}
EntriesAreRead ts (x_read k ty) = Unit {0}
EntriesAreRead ts (x_load ty a) = EntriesAreRead ts a
EntriesAreRead ts (x_one k ty a) = EntriesAreRead ts a
EntriesAreRead ts (x_cast ty a) = EntriesAreRead ts a
EntriesAreRead ts (x_entry n es ty a) = IsTableRead ts n es ty × EntriesAreRead ts a
EntriesAreRead ts (x_two op ty a b) = EntriesAreRead ts a × EntriesAreRead ts b
EntriesAreRead ts (x_choose ty c a b) = EntriesAreRead ts c × EntriesAreRead ts a × EntriesAreRead ts b

abbrev pub TablesAreRead : List Table → Statement → Type 0
TablesAreRead ts st_skip = Unit {0}
TablesAreRead ts (st_then x y) = TablesAreRead ts x × TablesAreRead ts y
TablesAreRead ts (st_set k ty e) = EntriesAreRead ts e
TablesAreRead ts (st_write k ty e a) = EntriesAreRead ts e × EntriesAreRead ts a
TablesAreRead ts (st_if c x y) = EntriesAreRead ts c × TablesAreRead ts x × TablesAreRead ts y

-- ---- laws of an extension that breaks no rule
abbrev pub TablesLaw : Type 0
TablesLaw = (t : TypedTextTree) (x : ExtensionTree) (w : Which) → IsOf t x → HasBehaviour x w → TablesAreRead x.tables (statement_at x w)

-- the entries of each table have the width of its type
abbrev pub WidthsLaw : Type 0
WidthsLaw = (t : TypedTextTree) (x : ExtensionTree) → IsOf t x → All (λ table. HaveWidthOf table.ty table.entries) x.tables
