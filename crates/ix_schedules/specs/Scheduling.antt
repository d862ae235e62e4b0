-- The schedules of an extension's behaviours on a core, or the first behaviour that has none (Longnail, scheduling; the order is this project's choice).
use Rattle.std.specs.Prelude.{◌≡◌, ℕ, ◌<◌, ◌⊎◌, List, [], ◌∷◌, length, Bool, All}
use Rattle.ix_extension.specs.Extensions.{BehaviourTree, InstructionTree, ExtensionTree}
use Rattle.ix_behaviour.specs.declared.which.Which.{Which}
use Rattle.ix_graph.specs.declared.graph.Graph.{Graph}
use Rattle.ix_graph_laws.specs.Operations.{operations_at}
pub use Rattle.ix_standing.specs.Standing.{behaviours_of, name_in, name_at, is_block}
use Rattle.ix_slots.specs.Found.{entries_of}
use Rattle.ix_graphs.specs.Graphed.{IsGraphAt}
use Rattle.ix_sheet.specs.declared.sheet.Sheet.{Sheet}
use Rattle.ix_sheet.specs.declared.problem.Problem.{Problem}
use Rattle.ix_sheet.specs.declared.problem.Bound.{Bound}
use Rattle.ix_modes.specs.declared.scheduled.Scheduled.{Scheduled}
use Rattle.ix_modes.specs.Modes.{IsScheduled, FitsWidest, IsUnschedulable}
use Rattle.ix_cert.specs.declared.report.Report.{Report}
use Rattle.ix_cert.specs.declared.report.ReportBlock.{ReportBlock}
use Rattle.ix_cert.specs.Layout.{IsName}
use Rattle.ix_reports.specs.Blocks.{version_by, SaysSchedule, SaysNone, IsSound}
use Rattle.ix_schedules.specs.declared.scheduling.ScheduleErr.{ScheduleErr}
use Rattle.ix_schedules.specs.declared.scheduling.ScheduleErr.TheVariants.{TooManyOps, NoSchedule, Memory}

-- ---- behaviours
-- each behaviour has a name of the language, of at most 64 bytes
pub record AreNamed (x : ExtensionTree) : Type 0 where
  pub instructions : All (λ (i : InstructionTree). IsName i.behaviour.name) x.instructions
  pub blocks : All (λ (b : BehaviourTree). IsName b.name) x.blocks

-- ---- what a report says of one behaviour, by its graph
-- the mode is the rule's, the times are the chosen ones of the graph's problem in that mode, and the check of a report finds no fault in what is said
pub record IsReportedBy (name : List ℕ) (g : Graph) (sheet : Sheet) (block : Bool) (b : ReportBlock) : Type 0 where
  pub scheduled : Scheduled
  pub schedule : IsScheduled g sheet block scheduled
  pub fits : FitsWidest g sheet block
  pub says : SaysSchedule name g scheduled b
  pub sound : IsSound sheet.weighted sheet.period b

-- no legal schedule is in the widest windows, which the cycle that is said shows
pub record IsWithoutBy (name : List ℕ) (g : Graph) (sheet : Sheet) (block : Bool) (b : ReportBlock) : Type 0 where
  pub problem : Problem
  pub cycle : List Bound
  pub none : IsUnschedulable g sheet block problem cycle
  pub says : SaysNone name g problem cycle b
  pub sound : IsSound sheet.weighted sheet.period b

-- ---- what becomes of one behaviour of an extension
pub record IsReported (x : ExtensionTree) (sheet : Sheet) (w : Which) (b : ReportBlock) : Type 0 where
  pub graph : Graph
  pub graph_is : IsGraphAt x w (entries_of x.tables) graph
  pub said : IsReportedBy (name_at x w) graph sheet (is_block w) b

pub record IsWithout (x : ExtensionTree) (sheet : Sheet) (w : Which) (b : ReportBlock) : Type 0 where
  pub graph : Graph
  pub graph_is : IsGraphAt x w (entries_of x.tables) graph
  pub said : IsWithoutBy (name_at x w) graph sheet (is_block w) b

-- more than 256 operations
abbrev pub IsTooLarge : ExtensionTree → Which → Type 0
IsTooLarge x w = 256 < length (operations_at x w)

-- at most 256 operations, and a legal schedule in the widest windows
pub record IsSchedulable (x : ExtensionTree) (sheet : Sheet) (w : Which) : Type 0 where
  pub graph : Graph
  pub graph_is : IsGraphAt x w (entries_of x.tables) graph
  pub fits : FitsWidest graph sheet (is_block w)

-- ---- all behaviours
-- each in its turn
abbrev pub AreReported : ExtensionTree → Sheet → List Which → List ReportBlock → Type 0
AreReported x sheet [] [] = Unit {0}
AreReported x sheet (w ∷ ws) (b ∷ bs) = IsReported x sheet w b × AreReported x sheet ws bs
AreReported x sheet _ _ = ⊥

-- the first of which something is so, and of those before it another thing
abbrev pub AtFirst : (Which → Type 0) → (Which → Type 0) → List Which → Type 0
AtFirst Before Here [] = ⊥
AtFirst Before Here (w ∷ ws) = Here w ⊎ (Before w × AtFirst Before Here ws)

-- the report of an extension, of the version that its sheet's lifetimes have: what is said of each of its behaviours
pub record IsReport (x : ExtensionTree) (sheet : Sheet) (r : Report) : Type 0 where
  pub version_is : r.version ≡ version_by sheet.weighted
  pub period_is : r.period ≡ sheet.period
  pub reported : AreReported x sheet (behaviours_of x) r.blocks

-- why a behaviour is not scheduled
abbrev pub IsRefusedAs : ExtensionTree → Sheet → ScheduleErr → Which → Type 0
IsRefusedAs x sheet (TooManyOps name) w = IsTooLarge x w × (name ≡ name_at x w)
IsRefusedAs x sheet (NoSchedule b) w = IsWithout x sheet w b
IsRefusedAs x sheet Memory w = Unit {0}

-- of a list of behaviours the first that is not scheduled, behind such as can be scheduled
abbrev pub IsFirstRefused : ExtensionTree → Sheet → List Which → ScheduleErr → Type 0
IsFirstRefused x sheet ws (TooManyOps name) = AtFirst (IsSchedulable x sheet) (IsRefusedAs x sheet (TooManyOps name)) ws
IsFirstRefused x sheet ws (NoSchedule b) = AtFirst (IsSchedulable x sheet) (IsRefusedAs x sheet (NoSchedule b)) ws
IsFirstRefused x sheet ws Memory = Unit {0}

-- the answer of a behaviour by its graph
abbrev pub IsRefusedBy : List ℕ → Graph → Sheet → Bool → ScheduleErr → Type 0
IsRefusedBy name g sheet block (TooManyOps other) = ⊥
IsRefusedBy name g sheet block (NoSchedule b) = IsWithoutBy name g sheet block b
IsRefusedBy name g sheet block Memory = Unit {0}
