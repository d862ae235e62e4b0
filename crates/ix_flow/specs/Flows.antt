-- The operation graph of a behaviour: its operations in order, the flags of spawned writes, the tables (this project's choice of the order and of what
-- is one operation).
use Rattle.std.specs.Prelude.{◌≡◌, ℕ, ◌+◌, ◌<◌, ◌≤◌, Bool, false, List, [], ◌∷◌, length, map, get_or, Option, Some, None, Result, Ok, Err}
use Rattle.ix_graph.specs.declared.args.Arg.{Arg}
use Rattle.ix_graph.specs.declared.args.Arg.TheVariants as arg
use Rattle.ix_graph.specs.declared.graph.Op.{Op}
use Rattle.ix_graph.specs.declared.graph.Graph.{Graph}
use Rattle.ix_graph.specs.declared.kind.Kind.{Kind}
use Rattle.ix_graph.specs.declared.kind.Kind.TheVariants.{WrRD, WrPC, WrCustReg, WrMem, Cast, Rom}
use Rattle.ix_mean.specs.Core.{Statement}
use Rattle.ix_mean.specs.Terms.{Term, t_const, t_read, t_one, t_entry, t_two, t_three, type_of, zero_term, one_term, loads}
use Rattle.ix_mean.specs.Order.{operations, roots}
use Rattle.ix_mean.specs.Effects.{start, effect_terms}
use Rattle.ix_mean.specs.View.{frame_of}
use Rattle.ix_terms.specs.declared.source.Source.{Source}
use Rattle.ix_terms.specs.Places.{IsOperation}
use Rattle.ix_terms.specs.Stores.{Stock}
use Rattle.ix_flow.specs.declared.error.FlowErr.{FlowErr}
use Rattle.ix_flow.specs.declared.error.FlowErr.TheVariants.{TooManyOps, Memory}

-- the operations of a behaviour, in their order
abbrev pub operations_of : Source → Statement → List Term
operations_of f x = operations (roots (loads one_term x (start (frame_of f.types))) (effect_terms (frame_of f.types) x).targets)

-- ---- one operation
abbrev pub kind_of_term : Term → Kind
kind_of_term (t_const ty raw) = Cast
kind_of_term (t_read k ty) = k
kind_of_term (t_one k ty a) = k
kind_of_term (t_entry n es ty a) = Rom n
kind_of_term (t_two k ty a b) = k
kind_of_term (t_three k ty a b c) = k

-- the arguments of a term, from left to right
abbrev pub args_of_term : Term → List Term
args_of_term (t_const ty raw) = []
args_of_term (t_read k ty) = []
args_of_term (t_one k ty a) = a ∷ []
args_of_term (t_entry n es ty a) = a ∷ []
args_of_term (t_two k ty a b) = a ∷ b ∷ []
args_of_term (t_three k ty a b c) = a ∷ b ∷ c ∷ []

-- a term as an argument: a constant with its pattern, or the place of the operation that it is
abbrev pub IsArgOf : List Term → Term → Arg → Type 0
IsArgOf all t (arg.Const ty bits) = (t ≡ t_const ty bits.raw) × (bits.width ≡ ty.width)
IsArgOf all t (arg.Op n) = IsOperation t × (n < length all) × (get_or all n zero_term ≡ t)

abbrev pub AreArgsOf : List Term → List Term → List Arg → Type 0
AreArgsOf all [] [] = Unit {0}
AreArgsOf all (t ∷ ts) (a ∷ bs) = IsArgOf all t a × AreArgsOf all ts bs
AreArgsOf all _ _ = ⊥

-- a term as an operation among all
pub record IsOpOf (all : List Term) (t : Term) (o : Op) : Type 0 where
  pub operation : IsOperation t
  pub kind_is : o.kind ≡ kind_of_term t
  pub ty_is : o.ty ≡ type_of t
  pub args_are : AreArgsOf all (args_of_term t) o.args

abbrev pub AreOpsOf : List Term → List Term → List Op → Type 0
AreOpsOf all [] [] = Unit {0}
AreOpsOf all (t ∷ ts) (o ∷ os) = IsOpOf all t o × AreOpsOf all ts os
AreOpsOf all _ _ = ⊥

-- ---- flags
-- the target that a kind writes: memory is 0, rd 1, the program counter 2, the custom register r 3 + r
abbrev pub target_of : Kind → Option ℕ
target_of WrMem = Some 0
target_of WrRD = Some 1
target_of WrPC = Some 2
target_of (WrCustReg r) = Some (3 + r)
target_of _ = None

abbrev pub flag_at : List Bool → Option ℕ → Bool
flag_at spawned None = false
flag_at spawned (Some n) = get_or spawned n false

-- an operation is flagged where it writes a target that a spawned body writes
abbrev pub flag_of : List Bool → Op → Bool
flag_of spawned o = flag_at spawned (target_of o.kind)

-- ---- the graph
pub record IsFlow (f : Source) (x : Statement) (spawned : List Bool) (g : Graph) : Type 0 where
  pub ops : AreOpsOf (operations_of f x) (operations_of f x) g.ops
  pub few : length (operations_of f x) ≤ 256
  pub flags : g.spawned ≡ map (flag_of spawned) g.ops
  pub tables : g.tables ≡ f.tables

-- the graph, or more than 256 operations
abbrev pub FlowsTo : Source → Statement → List Bool → Result Graph FlowErr → Type 0
FlowsTo f x spawned (Ok g) = IsFlow f x spawned g
FlowsTo f x spawned (Err TooManyOps) = 256 < length (operations_of f x)
FlowsTo f x spawned (Err Memory) = Unit {0}

-- a graph of operations, over the tables of a store
pub record IsBuilt (s : Stock) (all : List Term) (spawned : List Bool) (g : Graph) : Type 0 where
  pub ops : AreOpsOf all all g.ops
  pub flags : g.spawned ≡ map (flag_of spawned) g.ops
  pub tables : g.tables ≡ s.tables
