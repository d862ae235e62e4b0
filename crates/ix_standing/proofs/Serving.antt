-- What a design that stands for its extension shows under the inputs of a behaviour.
use Rattle.std.proofs.Common.{◌≡◌, ℕ, ◌<◌, Some, length, arith, All}
use Rattle.std.specs.Prelude.{slice_get, map}
use Rattle.std.specs.List.{range_with_len}
use Rattle.std.proofs.lemmas.List.FromFn.{length-range_with_len, get_or-range_with_len}
use Rattle.std.proofs.lemmas.List.Elements.{All-append, All-map, All-contains}
use Rattle.ix_net.proofs.NetLemmas.{contains_from_slice_get}
use Rattle.ix_extension.specs.Extensions.{ExtensionTree, view_extension}
use Rattle.ix_behaviour.specs.declared.which.Which.{Which}
use Rattle.ix_behaviour.specs.Behaviours.{HasBehaviour}
use Rattle.ix_graph_laws.specs.GraphEffects.{values_under}
use Rattle.ix_graph_laws.specs.Laws.{GraphEffectLaw, ValuesLaw}
use Rattle.ix_graph.specs.declared.graph.Graph.{Graph}
use Rattle.ix_graph_laws.specs.Operations.{IsGraphOf, entries_in}
use Rattle.ix_graphs.specs.Graphed.{IsGraphAt}
use Rattle.ix_standing.specs.Standing.{instruction_number, block_number, behaviours_of, IsBuilt}
use Rattle.ix_standing.specs.Served.{BuiltLaw, ServedLaw}

below : (n : ℕ) → All (λ i. i < n) (range_with_len 0 n)
below n i d l = (let few = length-range_with_len 0 n in let at = get_or-range_with_len 0 n i d (omega (arith, few, l)) in omega (arith, at, few, l))

-- each of them is a behaviour of the extension
all_are : (x : ExtensionTree) → All (HasBehaviour x) (behaviours_of x)
all_are x =
    All-append (HasBehaviour x) (map instruction_number (range_with_len 0 (length x.instructions))) (map block_number (range_with_len 0 (length x.blocks)))
    (All-map (HasBehaviour x) instruction_number (range_with_len 0 (length x.instructions)) (below (length x.instructions)))
    (All-map (HasBehaviour x) block_number (range_with_len 0 (length x.blocks)) (below (length x.blocks)))

pub behaviour_is : (x : ExtensionTree) (k : ℕ) (w : Which) → slice_get (behaviours_of x) k ≡ Some w → HasBehaviour x w
behaviour_is x k w h = All-contains (HasBehaviour x) (behaviours_of x) w (all_are x) (contains_from_slice_get (behaviours_of x) k w h)

graph_is : (x : ExtensionTree) (w : Which) (g : Graph) → IsGraphAt x w (map entries_in x.tables) g → IsGraphOf x w g
graph_is x w g h = record { ops = h.ops; few = h.few; flags = h.flags; tables_are = h.tables_are }

pub built_serve : GraphEffectLaw → ValuesLaw → BuiltLaw
built_serve effect values t x sheet plans nets whole are k w p n which plan net i inputs =
    let built : IsBuilt x sheet w p n = are.each k w p n which plan net in
    let has : HasBehaviour x w = behaviour_is x k w which in
    let graph = graph_is x w p.graph built.planned.graph in
    let told = values t x w p.graph whole has graph i inputs in
    record {
      reads = told.reads;
      same = effect t x w p.graph whole has graph i (values_under p.graph i) inputs told.meaning told.reads;
      shows = built.serves.shows (values_under p.graph i) told.meaning;
    }

pub serves_inputs : GraphEffectLaw → ValuesLaw → ServedLaw
serves_inputs effect values d stands = built_serve effect values stands.well_formed.0 (view_extension d.extension) d.sheet d.plans d.nets stands.well_formed.1 stands.built
