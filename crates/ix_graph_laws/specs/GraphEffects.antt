-- What the operation graph of a behaviour gives, reads and writes (the operations on the core are SCAIE-V's; that one with the condition 0 does nothing, and that
-- memory then gives 0, is this project's choice).
use Rattle.std.specs.Prelude.{◌≡◌, ℕ, zero, suc, ◌/◌, ◌%◌, ◌^◌, ℤ, pos, unsigned_abs, List, [], ◌∷◌, ◌++◌, map, Option, Some, None, slice_get, slice_index, Bool, false, if◌then◌else◌, nat_eq}
use Rattle.ix_bits.specs.declared.number.Ty.{Ty}
use Rattle.ix_bits.specs.Operators.{value_of, is_true}
use Rattle.ix_graph.specs.declared.kind.Kind.{Kind}
use Rattle.ix_graph.specs.declared.kind.Kind.TheVariants.{RdMem, WrMem}
use Rattle.ix_graph.specs.declared.args.Arg.{Arg}
use Rattle.ix_graph.specs.declared.graph.Op.{Op}
use Rattle.ix_graph.specs.declared.graph.Graph.{Graph}
use Rattle.ix_graph.specs.declared.role.Role.{Role}
use Rattle.ix_graph.specs.declared.role.Role.TheVariants.{Read, Compute, Write}
use Rattle.ix_graph.specs.Graphs.{arg_type}
use Rattle.ix_graph.specs.Roles.{role_of, same_kind}
use Rattle.ix_mean.specs.Meaning.{Inputs, read, Access}
use Rattle.ix_mean.specs.Meaning as meaning
use Rattle.ix_mean.specs.GraphValues.{arg_raw, kind_value}
use Rattle.ix_flow.specs.Flows.{target_of}

-- ---- arguments
abbrev pub typed_number : Option Ty → ℕ → ℤ
typed_number None raw = pos 0
typed_number (Some ty) raw = value_of ty raw

-- the number of an argument, where `terms` has the patterns of the operations
abbrev pub arg_number : Graph → (ℕ → ℕ) → Arg → ℤ
arg_number g terms a = typed_number (arg_type g.ops a) (arg_raw terms a)

abbrev pub numbers_of : Graph → (ℕ → ℕ) → Op → List ℤ
numbers_of g terms o = map (arg_number g terms) o.args

-- ---- what is read
-- a load has an address and a condition
abbrev pub memory_raw : Inputs → Ty → List ℤ → ℕ
memory_raw i ty (at ∷ c ∷ []) = if is_true c then i.memory (unsigned_abs at) (ty.width / 8) % 2 ^ ty.width else 0
memory_raw i ty numbers = 0

abbrev pub read_raw : Inputs → Kind → Ty → List ℤ → ℕ
read_raw i RdMem ty numbers = memory_raw i ty numbers
read_raw i kind ty numbers = read i kind

-- each read of the graph gives what the core has
abbrev pub AreReads : Graph → Inputs → (ℕ → ℕ) → Type 0
AreReads g i terms = (k : ℕ) (op : Op) → slice_get g.ops k ≡ Some op → role_of op.kind ≡ Read → terms k ≡ read_raw i op.kind op.ty (numbers_of g terms op)

abbrev pub accessed : Ty → List ℤ → List Access
accessed ty (at ∷ c ∷ []) = if is_true c then record { ty = ty; at = at } ∷ [] else []
accessed ty numbers = []

abbrev pub reads_by : Graph → (ℕ → ℕ) → List Op → List Access
reads_by g terms [] = []
reads_by g terms (o ∷ os) = (if same_kind o.kind RdMem then accessed o.ty (numbers_of g terms o) else []) ++ reads_by g terms os

-- the reads of memory whose condition is not 0, in the order of the operations
abbrev pub graph_reads : Graph → (ℕ → ℕ) → List Access
graph_reads g terms = reads_by g terms g.ops

-- ---- what is written
-- a write has a value and a condition, and a store has an address before them
abbrev pub written : Kind → List ℤ → Option meaning.Write
written WrMem (at ∷ v ∷ c ∷ []) = if is_true c then Some (record { value = v; address = at }) else None
written kind (v ∷ c ∷ []) = if is_true c then Some (record { value = v; address = pos 0 }) else None
written kind numbers = None

abbrev pub is_target : ℕ → Option ℕ → Bool
is_target n None = false
is_target n (Some m) = nat_eq m n

abbrev pub written_by : Graph → (ℕ → ℕ) → List Op → ℕ → Option meaning.Write
written_by g terms [] n = None
written_by g terms (o ∷ os) n = if is_target n (target_of o.kind) then written o.kind (numbers_of g terms o) else written_by g terms os n

-- what the graph writes to a target by its number: memory is 0, rd 1, the program counter 2, the custom register r 3 + r
abbrev pub graph_write : Graph → (ℕ → ℕ) → ℕ → Option meaning.Write
graph_write g terms n = written_by g terms g.ops n

-- ---- the values of a graph under inputs
-- the value of an operation, from those of the operations before it
abbrev pub under_as : Role → Graph → Inputs → List ℕ → Op → ℕ
under_as Read g i values op = read_raw i op.kind op.ty (numbers_of g (slice_index values) op)
under_as Compute g i values op = kind_value g.tables op.kind (map (arg_type g.ops) op.args) (map (arg_raw (slice_index values)) op.args) op.ty
under_as Write g i values op = 0

abbrev pub under_at : Graph → Inputs → List ℕ → Option Op → ℕ
under_at g i values None = 0
under_at g i values (Some op) = under_as (role_of op.kind) g i values op

-- the values of the first n operations
abbrev pub under_upto : Graph → Inputs → ℕ → List ℕ
under_upto g i zero = []
under_upto g i (suc n) = under_upto g i n ++ under_at g i (under_upto g i n) (slice_get g.ops n) ∷ []

abbrev pub values_under : Graph → Inputs → ℕ → ℕ
values_under g i k = slice_index (under_upto g i (suc k)) k
