-- What laws of graphs say of the graph that is told.
use Rattle.std.proofs.Common.{IfOk, Result, Ok, Err}
use Rattle.ix_graph.specs.declared.graph.Graph.{Graph}
use Rattle.ix_graph.specs.Graphs.{IsValidGraph}
use Rattle.ix_tree.specs.TypedTrees.{TypedTextTree}
use Rattle.ix_extension.specs.Extensions.{ExtensionTree}
use Rattle.ix_extension.specs.WellFormed.{IsOf}
use Rattle.ix_behaviour.specs.declared.which.Which.{Which}
use Rattle.ix_behaviour.specs.Behaviours.{HasBehaviour}
use Rattle.ix_slots.specs.Found.{entries_of}
use Rattle.ix_flow.specs.declared.error.FlowErr.{FlowErr}
use Rattle.ix_graph_laws.specs.Operations.{IsGraphOf}
use Rattle.ix_graph_laws.specs.Laws.{ValidLaw, DoesAsNamed, GraphEffectLaw, HasAllValues, ValuesLaw}
use Rattle.ix_graphs.specs.Graphed.{IsGraphAt, GraphsTo}

pub graph_is : (x : ExtensionTree) (w : Which) (g : Graph) → IsGraphAt x w (entries_of x.tables) g → IsGraphOf x w g
graph_is x w g h = record { ops = h.ops; few = h.few; flags = h.flags; tables_are = h.tables_are }

pub valid_told : ValidLaw → (t : TypedTextTree) (x : ExtensionTree) (w : Which) → IsOf t x → HasBehaviour x w → (r : Result Graph FlowErr) → GraphsTo x w (entries_of x.tables) r → IfOk r IsValidGraph
valid_told law t x w h b (Ok g) p = law t x w g h b (graph_is x w g p)
valid_told law t x w h b (Err e) p = tt

pub effect_told : GraphEffectLaw → (t : TypedTextTree) (x : ExtensionTree) (w : Which) → IsOf t x → HasBehaviour x w → (r : Result Graph FlowErr) → GraphsTo x w (entries_of x.tables) r → IfOk r (DoesAsNamed x w)
effect_told law t x w h b (Ok g) p = law t x w g h b (graph_is x w g p)
effect_told law t x w h b (Err e) p = tt

pub values_told : ValuesLaw → (t : TypedTextTree) (x : ExtensionTree) (w : Which) → IsOf t x → HasBehaviour x w → (r : Result Graph FlowErr) → GraphsTo x w (entries_of x.tables) r → IfOk r (HasAllValues x w)
values_told law t x w h b (Ok g) p = law t x w g h b (graph_is x w g p)
values_told law t x w h b (Err e) p = tt
