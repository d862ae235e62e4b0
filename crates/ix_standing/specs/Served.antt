-- What a design that stands for its extension does under the inputs of a behaviour (SCAIE-V, what a module of an instruction does in a pipeline).
use Rattle.std.specs.Prelude.{◌≡◌, ℕ, List, Some, slice_get}
use Rattle.ix_net.specs.declared.netlist.Net.{Net}
use Rattle.ix_sheet.specs.declared.sheet.Sheet.{Sheet}
use Rattle.ix_mean.specs.Meaning.{Inputs}
use Rattle.ix_mean.specs.Typing.{AreInputs}
use Rattle.ix_tree.specs.TypedTrees.{TypedTextTree}
use Rattle.ix_extension.specs.Extensions.{ExtensionTree, view_extension}
use Rattle.ix_extension.specs.WellFormed.{IsOf}
use Rattle.ix_behaviour.specs.declared.which.Which.{Which}
use Rattle.ix_behaviour.specs.Behaviours.{targets_at}
use Rattle.ix_graph_laws.specs.GraphEffects.{AreReads, values_under}
use Rattle.ix_graph_laws.specs.Laws.{DoesTheSame}
use Rattle.ix_plan.specs.declared.design.Plan.{Plan}
use Rattle.ix_plan.specs.declared.design.Design.{Design}
use Rattle.ix_plan.specs.Service.{ShowsTerms}
use Rattle.ix_standing.specs.Standing.{behaviours_of, AreBuilt, Stands}

-- Under these inputs each operation has its term's value, reads give what the core has, and the writes are those of the behaviour; and these values are
-- what the net shows, in all runs and lives.
pub record ShowsUnder (x : ExtensionTree) (sheet : Sheet) (w : Which) (p : Plan) (n : Net) (i : Inputs) : Type 0 where
  pub reads : AreReads p.graph i (values_under p.graph i)
  pub same : DoesTheSame x w i p.graph (values_under p.graph i)
  pub shows : ShowsTerms sheet.shape p.graph p.times n (values_under p.graph i)

-- for all inputs of the behaviour
abbrev pub ShowsAt : ExtensionTree → Sheet → Which → Plan → Net → Type 0
ShowsAt x sheet w p n = (i : Inputs) → AreInputs (targets_at x w) i → ShowsUnder x sheet w p n i

-- the net of each behaviour, by its number
abbrev pub AllShow : ExtensionTree → Sheet → List Plan → List Net → Type 0
AllShow x sheet plans nets =
    (k : ℕ) (w : Which) (p : Plan) (n : Net) → slice_get (behaviours_of x) k ≡ Some w → slice_get plans k ≡ Some p → slice_get nets k ≡ Some n →
    ShowsAt x sheet w p n

-- nets that are built for an extension without faults show the values of its behaviours for all their inputs
abbrev pub BuiltLaw : Type 0
BuiltLaw =
    (t : TypedTextTree) (x : ExtensionTree) (sheet : Sheet) (plans : List Plan) (nets : List Net) → IsOf t x → AreBuilt x sheet plans nets →
    AllShow x sheet plans nets

-- and so do those of a design that stands for its extension
abbrev pub ServedLaw : Type 0
ServedLaw = (d : Design) → Stands d → AllShow (view_extension d.extension) d.sheet d.plans d.nets
