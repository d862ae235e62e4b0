-- The operation graph of a behaviour of an extension (this project's choice of the order of operations).
use Rattle.std.specs.Prelude.{◌≡◌, ◌<◌, ◌≤◌, List, length, map, Result, Ok, Err}
use Rattle.ix_bits.specs.declared.number.Bits.{Bits}
use Rattle.ix_graph.specs.declared.graph.Graph.{Graph}
use Rattle.ix_extension.specs.Extensions.{ExtensionTree}
use Rattle.ix_behaviour.specs.declared.which.Which.{Which}
use Rattle.ix_behaviour.specs.Flags.{flags_at}
use Rattle.ix_flow.specs.Flows.{AreOpsOf, flag_of}
use Rattle.ix_graph_laws.specs.Operations.{operations_at}
use Rattle.ix_flow.specs.declared.error.FlowErr.{FlowErr}
use Rattle.ix_flow.specs.declared.error.FlowErr.TheVariants.{TooManyOps, Memory}

-- the graph has these operations, the flags of the spawned targets, and the extension's tables
pub record IsGraphAt (x : ExtensionTree) (w : Which) (tables : List (List Bits)) (g : Graph) : Type 0 where
  pub ops : AreOpsOf (operations_at x w) (operations_at x w) g.ops
  pub few : length (operations_at x w) ≤ 256
  pub flags : g.spawned ≡ map (flag_of (flags_at x w)) g.ops
  pub tables_are : g.tables ≡ tables

-- the graph, or more than 256 operations
abbrev pub GraphsTo : ExtensionTree → Which → List (List Bits) → Result Graph FlowErr → Type 0
GraphsTo x w tables (Ok g) = IsGraphAt x w tables g
GraphsTo x w tables (Err TooManyOps) = 256 < length (operations_at x w)
GraphsTo x w tables (Err Memory) = Unit {0}
