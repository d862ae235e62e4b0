-- What the effect of a behaviour depends on, by the operations of its graph (this project's choice).
use Rattle.std.specs.Prelude.{◌≡◌, ℕ, ℤ, Contains, List, get_or, Option, Some, None, option_map, slice_get}
use Rattle.ix_graph.specs.declared.kind.Kind.{Kind}
use Rattle.ix_graph.specs.declared.kind.Kind.TheVariants.{RdMem}
use Rattle.ix_graph.specs.declared.args.Arg.TheVariants as arg
use Rattle.ix_graph.specs.declared.graph.Op.{Op}
use Rattle.ix_mean.specs.Meaning.{Inputs, read, Write}
use Rattle.ix_mean.specs.Effects.{effect_reads}
use Rattle.ix_extension.specs.Extensions.{ExtensionTree}
use Rattle.ix_behaviour.specs.declared.which.Which.{Which}
use Rattle.ix_behaviour.specs.Behaviours.{statement_at, frame_at, effect_by_name}
use Rattle.ix_flow.specs.Flows.{target_of}

-- two inputs agree on what an operation of this kind reads
pub record Agrees (i j : Inputs) (kind : Kind) : Type 0 where
  pub read : read i kind ≡ read j kind
  pub memory : kind ≡ RdMem → i.memory ≡ j.memory

-- operations chosen by their places: the arguments of a low one are good, good ones are low, and two inputs agree on what good ones read
pub record IsClosed (ops : List Op) (i j : Inputs) (Low Good : ℕ → Type 0) : Type 0 where
  pub down : (k : ℕ) (o : Op) (n : ℕ) → slice_get ops k ≡ Some o → Contains o.args (arg.Op n) → Low k → Good n
  pub low : (n : ℕ) → Good n → Low n
  pub agrees : (n : ℕ) (o : Op) → slice_get ops n ≡ Some o → Good n → Agrees i j o.kind

-- each operation that writes this target is low
abbrev pub AreLowWrites : List Op → (ℕ → Type 0) → ℕ → Type 0
AreLowWrites ops Low n = (k : ℕ) (o : Op) → slice_get ops k ≡ Some o → target_of o.kind ≡ Some n → Low k

-- each load is low
abbrev pub AreLowLoads : List Op → (ℕ → Type 0) → Type 0
AreLowLoads ops Low = (k : ℕ) (o : Op) → slice_get ops k ≡ Some o → o.kind ≡ RdMem → Low k

abbrev pub value_of_write : Write → ℤ
value_of_write w = w.value

-- the value that is written to a target, if one is
abbrev pub value_written : List (Option Write) → ℕ → Option ℤ
value_written ws n = option_map value_of_write (get_or ws n None)

-- the effects under the two inputs are one in what low operations do
pub record IsSameWhereLow (x : ExtensionTree) (w : Which) (ops : List Op) (i j : Inputs) (Low : ℕ → Type 0) : Type 0 where
  pub values : (n : ℕ) → AreLowWrites ops Low n → value_written (effect_by_name x w i) n ≡ value_written (effect_by_name x w j) n
  pub store : AreLowWrites ops Low 0 → get_or (effect_by_name x w i) 0 None ≡ get_or (effect_by_name x w j) 0 None
  pub reads : AreLowLoads ops Low → effect_reads (frame_at x w) (statement_at x w) i ≡ effect_reads (frame_at x w) (statement_at x w) j
