-- Behaviours of an extension with their names resolved: what each does and reads by names, and by slots and numbered targets (CoreDSL 2, instructions and
-- always-blocks; slots and the numbers of targets are this project's choice).
use Rattle.std.specs.Prelude.{ℕ, ◌+◌, false, ◌<◌, List, [], ◌∷◌, ◌++◌, map, length, slice_get, Option, Some, None, option_map, if◌then◌else◌, nat_eq}
use Rattle.ix_bits.specs.declared.number.Ty.{Ty}
use Rattle.ix_bits.specs.NearTypes.{type_near}
use Rattle.ix_tree.specs.declared.extension.Register.{Register}
use Rattle.ix_tree.specs.declared.extension.Piece.{Piece}
use Rattle.ix_tree.specs.TypedTrees.{TypedStmtTree, ts_block, ts_empty, ts_locals, ts_assign, ts_if, ts_if_else, ts_spawn, TypedRow, typed_end, typed_more}
use Rattle.ix_extension.specs.Extensions.{BehaviourTree, InstructionTree, ExtensionTree}
use Rattle.ix_mean.specs.Core.{u32, Expression, x_const, x_slot, x_read, x_load, x_one, x_cast, x_entry, x_two, x_choose, Statement, st_skip, st_then, st_set, st_write, st_if}
use Rattle.ix_mean.specs.Meaning.{Inputs, Write, Access}
use Rattle.ix_mean.specs.Effects.{no_write}
use Rattle.ix_mean.specs.Typing.{Frame}
use Rattle.ix_mean.specs.ByName.{Names}
use Rattle.ix_mean.specs.EffectByName.{Doing, does}
use Rattle.ix_mean.specs.ReadsByName.{read_by}
use Rattle.ix_mean.specs.ResolvingStatements.{Scope, Step, step, after, left, outside}
use Rattle.ix_behaviour.specs.declared.which.Which.{Which}
use Rattle.ix_behaviour.specs.declared.which.Which.TheVariants as W

-- ---- the behaviour and its names
-- the behaviour is one of the extension
abbrev pub HasBehaviour : ExtensionTree → Which → Type 0
HasBehaviour x (W.Instruction n) = n < length x.instructions
HasBehaviour x (W.Block n) = n < length x.blocks

abbrev pub behaviour_of : InstructionTree → BehaviourTree
behaviour_of i = i.behaviour

abbrev pub behaviour_at : ExtensionTree → Which → Option BehaviourTree
behaviour_at x (W.Instruction n) = option_map behaviour_of (slice_get x.instructions n)
behaviour_at x (W.Block n) = slice_get x.blocks n

-- no statements where there is no such behaviour
abbrev pub body_in : Option BehaviourTree → List TypedStmtTree
body_in None = []
body_in (Some b) = b.body

abbrev pub body_at : ExtensionTree → Which → List TypedStmtTree
body_at x w = body_in (behaviour_at x w)

-- an always-block has no fields
abbrev pub pieces_in : Option InstructionTree → List Piece
pieces_in None = []
pieces_in (Some i) = i.pieces

abbrev pub pieces_at : ExtensionTree → Which → List Piece
pieces_at x (W.Instruction n) = pieces_in (slice_get x.instructions n)
pieces_at x (W.Block n) = []

abbrev pub names_at : ExtensionTree → Which → Names
names_at x w = record { pieces = pieces_at x w; registers = x.registers; tables = x.tables }

-- ---- names resolved: one statement behind the other, from a scope without locals
abbrev pub steps : Names → List TypedStmtTree → Scope → Step
steps ns [] sc = record { body = st_skip; scope = sc }
steps ns (x ∷ xs) sc = after (step ns x sc) (steps ns xs)

abbrev pub resolved_at : ExtensionTree → Which → Step
resolved_at x w = steps (names_at x w) (body_at x w) outside

-- what a behaviour does, with its names resolved
abbrev pub statement_at : ExtensionTree → Which → Statement
statement_at x w = (resolved_at x w).body

-- ---- types of slots and targets: memory, rd, the program counter, the custom registers
abbrev pub first_of : Option Ty → Option Ty → Option Ty
first_of None y = y
first_of (Some ty) y = Some ty

-- the type of what the first store writes
abbrev pub stored_in : Statement → Option Ty
stored_in st_skip = None
stored_in (st_then x y) = first_of (stored_in x) (stored_in y)
stored_in (st_set k ty e) = None
stored_in (st_write k ty e a) = if nat_eq k 0 then Some ty else None
stored_in (st_if c x y) = first_of (stored_in x) (stored_in y)

-- a byte where nothing is stored
abbrev pub or_byte : Option Ty → Ty
or_byte None = type_near false 8
or_byte (Some ty) = ty

abbrev pub stored_type : Statement → Ty
stored_type x = or_byte (stored_in x)

abbrev pub type_of_register : Register → Ty
type_of_register r = r.ty

abbrev pub targets_at : ExtensionTree → Which → List Ty
targets_at x w = stored_type (statement_at x w) ∷ u32 ∷ u32 ∷ map type_of_register x.registers

abbrev pub frame_at : ExtensionTree → Which → Frame
frame_at x w = record { slots = (resolved_at x w).scope.slots; targets = targets_at x w }

-- ---- reads and stores of memory
-- how many reads stand in an expression
abbrev pub loads_in : Expression → ℕ
loads_in (x_const ty raw) = 0
loads_in (x_slot k ty) = 0
loads_in (x_read k ty) = 0
loads_in (x_load ty a) = loads_in a + 1
loads_in (x_one k ty a) = loads_in a
loads_in (x_cast ty a) = loads_in a
loads_in (x_entry n es ty a) = loads_in a
loads_in (x_two op ty a b) = loads_in a + loads_in b
loads_in (x_choose ty c a b) = loads_in c + loads_in a + loads_in b

-- a write of target 0 is a store
abbrev pub stores_at : ℕ → ℕ
stores_at k = if nat_eq k 0 then 1 else 0

-- how many reads and stores stand in a statement, whatever its conditions
abbrev pub accesses_in : Statement → ℕ
accesses_in st_skip = 0
accesses_in (st_then x y) = accesses_in x + accesses_in y
accesses_in (st_set k ty e) = loads_in e
accesses_in (st_write k ty e a) = stores_at k + loads_in e + loads_in a
accesses_in (st_if c x y) = loads_in c + accesses_in x + accesses_in y

-- ---- the targets that a spawned body writes, by their numbers
abbrev pub targets_in : Statement → List ℕ
targets_in st_skip = []
targets_in (st_then x y) = targets_in x ++ targets_in y
targets_in (st_set k ty e) = []
targets_in (st_write k ty e a) = k ∷ []
targets_in (st_if c x y) = targets_in x ++ targets_in y

abbrev mutual
  -- the targets of each `spawn` in the statement; in a typed one it stands below blocks alone
  pub spawned : Names → TypedStmtTree → Scope → List ℕ
  spawned ns (ts_block s all) sc = spawned_row ns all sc
  spawned ns (ts_empty s) sc = []
  spawned ns (ts_locals s ty ds) sc = []
  spawned ns (ts_assign s a) sc = []
  spawned ns (ts_if s c x) sc = spawned ns x sc
  spawned ns (ts_if_else s c x y) sc = spawned ns x sc ++ spawned ns y (left sc (step ns x sc).scope)
  spawned ns (ts_spawn s x) sc = targets_in (step ns x sc).body

  pub spawned_row : Names → TypedRow → Scope → List ℕ
  spawned_row ns typed_end sc = []
  spawned_row ns (typed_more x rest) sc = spawned ns x sc ++ spawned_row ns rest (step ns x sc).scope

abbrev pub all_spawned : Names → List TypedStmtTree → Scope → List ℕ
all_spawned ns [] sc = []
all_spawned ns (x ∷ xs) sc = spawned ns x sc ++ all_spawned ns xs (step ns x sc).scope

abbrev pub spawned_at : ExtensionTree → Which → List ℕ
spawned_at x w = all_spawned (names_at x w) (body_at x w) outside

-- ---- the effect, by names: what is written to each target from the state before
abbrev pub does_all : Names → Inputs → List TypedStmtTree → Doing → Doing
does_all ns i [] d = d
does_all ns i (x ∷ xs) d = does_all ns i xs (does ns i x d)

-- no local is visible, and nothing is written
abbrev pub at_start : ExtensionTree → Which → Doing
at_start x w = record { locals = []; targets = map no_write (targets_at x w) }

abbrev pub effect_by_name : ExtensionTree → Which → Inputs → List (Option Write)
effect_by_name x w i = (does_all (names_at x w) i (body_at x w) (at_start x w)).targets

-- ---- the reads of memory, by names: those of each statement, in order
abbrev pub reads_all : Names → Inputs → List TypedStmtTree → Doing → List Access
reads_all ns i [] d = []
reads_all ns i (x ∷ xs) d = read_by ns i x d ++ reads_all ns i xs (does ns i x d)

abbrev pub reads_by_name : ExtensionTree → Which → Inputs → List Access
reads_by_name x w i = reads_all (names_at x w) i (body_at x w) (at_start x w)
