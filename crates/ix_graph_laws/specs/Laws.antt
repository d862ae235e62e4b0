-- Laws of the operation graphs of the behaviours of extensions that break no rule.
use Rattle.std.specs.Prelude.{◌≡◌, ℕ, get_or, None, Some, slice_get}
use Rattle.ix_bits.specs.Operators.{value_of}
use Rattle.ix_graph.specs.declared.graph.Op.{Op}
use Rattle.ix_graph.specs.declared.graph.Graph.{Graph}
use Rattle.ix_graph.specs.Graphs.{IsWrite, IsValidGraph}
use Rattle.ix_tree.specs.TypedTrees.{TypedTextTree}
use Rattle.ix_extension.specs.Extensions.{ExtensionTree}
use Rattle.ix_extension.specs.WellFormed.{IsOf}
use Rattle.ix_mean.specs.Meaning.{Inputs}
use Rattle.ix_mean.specs.Terms.{value, zero_term}
use Rattle.ix_mean.specs.Typing.{AreInputs}
use Rattle.ix_mean.specs.Effects.{effect_reads}
use Rattle.ix_mean.specs.GraphValues.{IsMeaning}
use Rattle.ix_behaviour.specs.declared.which.Which.{Which}
use Rattle.ix_behaviour.specs.Behaviours.{HasBehaviour, targets_at, statement_at, frame_at, effect_by_name}
use Rattle.ix_graph_laws.specs.Operations.{operations_at, IsGraphOf}
use Rattle.ix_graph_laws.specs.GraphEffects.{AreReads, graph_reads, graph_write, values_under}

abbrev pub ValidLaw : Type 0
ValidLaw = (t : TypedTextTree) (x : ExtensionTree) (w : Which) (g : Graph) → IsOf t x → HasBehaviour x w → IsGraphOf x w g → IsValidGraph g

-- Under inputs the graph does what the behaviour does by its names: each operation but a write gives its term's value, each target is written exactly where its
-- write's condition is not 0, and then with its value and address, and memory is read exactly where the load's condition is not 0, at its address.
pub record DoesTheSame (x : ExtensionTree) (w : Which) (i : Inputs) (g : Graph) (terms : ℕ → ℕ) : Type 0 where
  pub values : (k : ℕ) (op : Op) → slice_get g.ops k ≡ Some op → (IsWrite op.kind → ⊥) → value_of op.ty (terms k) ≡ value i (get_or (operations_at x w) k zero_term)
  pub writes : (n : ℕ) → graph_write g terms n ≡ get_or (effect_by_name x w i) n None
  pub reads : graph_reads g terms ≡ effect_reads (frame_at x w) (statement_at x w) i

-- for all that is a meaning of the graph, as what hardware computes, in which the reads give what the core has
abbrev pub DoesAsNamed : ExtensionTree → Which → Graph → Type 0
DoesAsNamed x w g = (i : Inputs) (terms : ℕ → ℕ) → AreInputs (targets_at x w) i → IsMeaning g terms → AreReads g i terms → DoesTheSame x w i g terms

abbrev pub GraphEffectLaw : Type 0
GraphEffectLaw = (t : TypedTextTree) (x : ExtensionTree) (w : Which) (g : Graph) → IsOf t x → HasBehaviour x w → IsGraphOf x w g → DoesAsNamed x w g

-- and there is one, for all inputs
pub record HasValues (g : Graph) (i : Inputs) : Type 0 where
  pub meaning : IsMeaning g (values_under g i)
  pub reads : AreReads g i (values_under g i)

abbrev pub HasAllValues : ExtensionTree → Which → Graph → Type 0
HasAllValues x w g = (i : Inputs) → AreInputs (targets_at x w) i → HasValues g i

abbrev pub ValuesLaw : Type 0
ValuesLaw = (t : TypedTextTree) (x : ExtensionTree) (w : Which) (g : Graph) → IsOf t x → HasBehaviour x w → IsGraphOf x w g → HasAllValues x w g
