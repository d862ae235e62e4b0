-- When a design stands for its extension and its datasheet (Longnail, one module for each instruction; that modules serve by one plan each is this project's choice).
use Rattle.std.specs.Prelude.{◌≡◌, ℕ, Bool, true, false, List, [], ◌++◌, length, map, Option, Some, None, slice_get, slice_index}
use Rattle.std.specs.List.{range_with_len}
use Rattle.ix_net.specs.declared.netlist.Net.{Net}
use Rattle.ix_net.specs.Valid.{IsValid}
use Rattle.ix_sheet.specs.declared.sheet.Sheet.{Sheet}
use Rattle.ix_sheet.specs.Sheets.{IsValidSheet}
use Rattle.ix_sheet.specs.Schedules.{IsSchedule, IsChosen}
use Rattle.ix_sheet.specs.Behaviours.{problem_of, IsModeOf}
use Rattle.ix_extension.specs.Extensions.{BehaviourTree, ExtensionTree, view_extension}
use Rattle.ix_extension.specs.WellFormed.{IsWellFormed}
use Rattle.ix_behaviour.specs.declared.which.Which.{Which}
use Rattle.ix_behaviour.specs.declared.which.Which.TheVariants as W
use Rattle.ix_behaviour.specs.Behaviours.{behaviour_at}
use Rattle.ix_graph_laws.specs.Operations.{entries_in}
use Rattle.ix_graphs.specs.Graphed.{IsGraphAt}
use Rattle.ix_plan.specs.declared.design.Plan.{Plan}
use Rattle.ix_plan.specs.declared.design.Design.{Design}
use Rattle.ix_ports.specs.Ports.{last_from}
use Rattle.ix_plan.specs.Service.{Serves}

-- ---- the behaviours of an extension
abbrev pub instruction_number : ℕ → Which
instruction_number n = W.Instruction n

abbrev pub block_number : ℕ → Which
block_number n = W.Block n

-- the instructions and then the blocks, each in the order of the source
abbrev pub behaviours_of : ExtensionTree → List Which
behaviours_of x =
    map instruction_number (range_with_len 0 (length x.instructions)) ++ map block_number (range_with_len 0 (length x.blocks))

abbrev pub is_block : Which → Bool
is_block (W.Instruction n) = false
is_block (W.Block n) = true

abbrev pub name_in : Option BehaviourTree → List ℕ
name_in None = []
name_in (Some b) = b.name

abbrev pub name_at : ExtensionTree → Which → List ℕ
name_at x w = name_in (behaviour_at x w)

-- ---- one behaviour
-- the behaviour's graph, the mode by the rule, and the chosen schedule of its problem in this mode
pub record IsPlanned (x : ExtensionTree) (sheet : Sheet) (w : Which) (p : Plan) : Type 0 where
  pub graph : IsGraphAt x w (map entries_in x.tables) p.graph
  pub mode : IsModeOf p.graph sheet (is_block w) p.mode
  pub schedule : IsSchedule (problem_of p.graph sheet p.mode) p.times
  pub chosen : IsChosen (problem_of p.graph sheet p.mode) (slice_index p.times)
  pub last : p.last ≡ last_from sheet.shape.rd p.times

-- the plan is the behaviour's, and the net is valid and serves it
pub record IsBuilt (x : ExtensionTree) (sheet : Sheet) (w : Which) (p : Plan) (n : Net) : Type 0 where
  pub planned : IsPlanned x sheet w p
  pub valid : IsValid n
  pub serves : Serves sheet.shape (name_at x w) p.graph p.times n

-- ---- all of them
-- a plan and a net for each behaviour, at its number
pub record AreBuilt (x : ExtensionTree) (sheet : Sheet) (plans : List Plan) (nets : List Net) : Type 0 where
  pub plan_count : length plans ≡ length (behaviours_of x)
  pub net_count : length nets ≡ length (behaviours_of x)
  pub each : (k : ℕ) (w : Which) (p : Plan) (n : Net) → slice_get (behaviours_of x) k ≡ Some w → slice_get plans k ≡ Some p →
      slice_get nets k ≡ Some n → IsBuilt x sheet w p n

-- the design stands for its extension and its sheet
pub record Stands (d : Design) : Type 0 where
  pub well_formed : IsWellFormed d.extension
  pub sheet : IsValidSheet d.sheet
  pub built : AreBuilt (view_extension d.extension) d.sheet d.plans d.nets
