-- What a report says of a behaviour (this project's choice).
use Rattle.std.specs.Prelude.{◌≡◌, ℕ, Bool, if◌then◌else◌, List, [], map, Some, None}
use Rattle.ix_graph.specs.declared.graph.Graph.{Graph}
use Rattle.ix_graph.specs.declared.graph.Op.{Op}
use Rattle.ix_graph.specs.Kinds.{printed_name}
use Rattle.ix_sheet.specs.declared.problem.Problem.{Problem}
use Rattle.ix_sheet.specs.declared.problem.Bound.{Bound}
use Rattle.ix_modes.specs.declared.scheduled.Scheduled.{Scheduled}
use Rattle.ix_cert.specs.declared.report.ReportBlock.{ReportBlock}
use Rattle.ix_cert.specs.Faults.{steps_in, HasNoFault}
use Rattle.ix_cert.specs.Layout.{IsBlockInForm}

-- an operation's kind as it is printed
abbrev pub kind_text : Op → List ℕ
kind_text op = printed_name op.kind

-- the behaviour's name, its mode, its operations, and its schedule with the flow that shows it
pub record SaysSchedule (name : List ℕ) (g : Graph) (s : Scheduled) (b : ReportBlock) : Type 0 where
  pub name_is : b.name ≡ name
  pub mode_is : b.mode ≡ Some s.mode
  pub kinds_are : b.kinds ≡ map kind_text g.ops
  pub problem_is : b.problem ≡ s.problem
  pub times_are : b.times ≡ s.times
  pub cost_is : b.cost ≡ s.cost
  pub flow_is : b.flow ≡ s.flow
  pub no_cycle : b.cycle ≡ []

-- the behaviour's name and its operations, and the cycle that shows that it has no schedule
pub record SaysNone (name : List ℕ) (g : Graph) (p : Problem) (cycle : List Bound) (b : ReportBlock) : Type 0 where
  pub name_is : b.name ≡ name
  pub mode_is : b.mode ≡ None
  pub kinds_are : b.kinds ≡ map kind_text g.ops
  pub problem_is : b.problem ≡ p
  pub no_times : b.times ≡ []
  pub no_cost : b.cost ≡ 0
  pub no_flow : b.flow ≡ []
  pub cycle_is : b.cycle ≡ cycle

-- the version of reports: 2 where lifetimes are weighed by width, else 1
abbrev pub version_by : Bool → ℕ
version_by weighted = if weighted then 2 else 1

-- it has the form of a report over this period whose operations have weights or have none, and the check of a report finds no fault in it, wherever it stands
pub record IsSound (weighted : Bool) (period : ℕ) (b : ReportBlock) : Type 0 where
  pub in_form : IsBlockInForm weighted period b
  pub faultless : (first : ℕ) → HasNoFault (steps_in b.mode b first)
