-- What is made of a behaviour, by its graph and by its number (this project's choice).
use Rattle.std.specs.Prelude.{◌≡◌, ℕ, List, [], ◌∷◌, Bool, slice_index}
use Rattle.ix_graph.specs.declared.graph.Graph.{Graph}
use Rattle.ix_net.specs.declared.netlist.Net.{Net}
use Rattle.ix_net.specs.Valid.{IsValid}
use Rattle.ix_sheet.specs.declared.sheet.Sheet.{Sheet}
use Rattle.ix_sheet.specs.Schedules.{IsSchedule, IsChosen}
use Rattle.ix_sheet.specs.Behaviours.{problem_of, IsModeOf}
use Rattle.ix_extension.specs.Extensions.{ExtensionTree}
use Rattle.ix_behaviour.specs.declared.which.Which.{Which}
use Rattle.ix_ports.specs.Ports.{last_from}
use Rattle.ix_plan.specs.declared.design.Plan.{Plan}
use Rattle.ix_plan.specs.Service.{Serves}
use Rattle.ix_standing.specs.Standing.{IsBuilt}
use Rattle.ix_design.specs.declared.building.Module.{Module}

-- the mode by the rule, the chosen schedule of the graph's problem in it, and a net that serves the behaviour of this name by them
pub record IsModuleBy (name : List ℕ) (g : Graph) (sheet : Sheet) (block : Bool) (m : Module) : Type 0 where
  pub graph_is : m.plan.graph ≡ g
  pub mode : IsModeOf g sheet block m.plan.mode
  pub schedule : IsSchedule (problem_of g sheet m.plan.mode) m.plan.times
  pub chosen : IsChosen (problem_of g sheet m.plan.mode) (slice_index m.plan.times)
  pub last : m.plan.last ≡ last_from sheet.shape.rd m.plan.times
  pub valid : IsValid m.net
  pub serves : Serves sheet.shape name g m.plan.times m.net

-- the plan and the net of a behaviour of the extension
abbrev pub IsModuleOf : ExtensionTree → Sheet → Which → Module → Type 0
IsModuleOf x sheet w m = IsBuilt x sheet w m.plan m.net

-- each behaviour of a list has its plan and its net, in its turn
abbrev pub AreBuiltInTurn : ExtensionTree → Sheet → List Which → List Plan → List Net → Type 0
AreBuiltInTurn x sheet [] [] [] = Unit {0}
AreBuiltInTurn x sheet (w ∷ ws) (p ∷ plans) (n ∷ nets) = IsBuilt x sheet w p n × AreBuiltInTurn x sheet ws plans nets
AreBuiltInTurn x sheet ws plans nets = ⊥
