-- The operation graph of a behaviour of an extension (this project's choice of the order of operations).
use Rattle.std.specs.Prelude.{◌≡◌, ◌≤◌, List, length, map}
use Rattle.ix_bits.specs.declared.number.Bits.{Bits}
use Rattle.ix_graph.specs.declared.graph.Graph.{Graph}
use Rattle.ix_tree.specs.declared.extension.Table.{Table}
use Rattle.ix_mean.specs.Terms.{Term, one_term, loads}
use Rattle.ix_mean.specs.Order.{operations, roots}
use Rattle.ix_mean.specs.Effects.{start, effect_terms}
use Rattle.ix_extension.specs.Extensions.{ExtensionTree}
use Rattle.ix_behaviour.specs.declared.which.Which.{Which}
use Rattle.ix_behaviour.specs.Behaviours.{statement_at, frame_at}
use Rattle.ix_behaviour.specs.Flags.{flags_at}
use Rattle.ix_flow.specs.Flows.{AreOpsOf, flag_of}

-- the operations of a behaviour, in their order
abbrev pub operations_at : ExtensionTree → Which → List Term
operations_at x w = operations (roots (loads one_term (statement_at x w) (start (frame_at x w))) (effect_terms (frame_at x w) (statement_at x w)).targets)

abbrev pub entries_in : Table → List Bits
entries_in t = t.entries

-- the graph has these operations, the flags of the spawned targets, and the extension's tables
pub record IsGraphOf (x : ExtensionTree) (w : Which) (g : Graph) : Type 0 where
  pub ops : AreOpsOf (operations_at x w) (operations_at x w) g.ops
  pub few : length (operations_at x w) ≤ 256
  pub flags : g.spawned ≡ map (flag_of (flags_at x w)) g.ops
  pub tables_are : g.tables ≡ map entries_in x.tables
