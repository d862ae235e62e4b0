-- A behaviour's mode with the schedule in it, or why it has none (this project's choice of the rule).
use Rattle.std.specs.Prelude.{◌≡◌, Bool, List, slice_index}
use Rattle.ix_graph.specs.declared.graph.Graph.{Graph}
use Rattle.ix_graph.specs.declared.graph.Mode.{Mode}
use Rattle.ix_sheet.specs.declared.sheet.Sheet.{Sheet}
use Rattle.ix_sheet.specs.declared.problem.Problem.{Problem}
use Rattle.ix_sheet.specs.declared.problem.Bound.{Bound}
use Rattle.ix_sheet.specs.Behaviours.{problem_of, AreEdges, IsModeOf, IsWidestModeOf}
use Rattle.ix_sheet.specs.Schedules.{HasSchedule, IsSchedule, IsChosen, cost}
use Rattle.ix_sheet.specs.Bounds.{IsDualFlow, HasValue, IsContradiction}
use Rattle.ix_solve.specs.Answers.{AreWords}
use Rattle.ix_modes.specs.declared.scheduled.Scheduled.{Scheduled}
use Rattle.ix_modes.specs.declared.scheduled.ModeErr.{ModeErr}
use Rattle.ix_modes.specs.declared.scheduled.ModeErr.TheVariants.{NoSchedule, Memory}

-- the mode is that of the rule, and the times are the chosen ones of the behaviour's problem in it, which the flow shows
pub record IsScheduled (g : Graph) (sheet : Sheet) (block : Bool) (s : Scheduled) : Type 0 where
  pub mode_is : IsModeOf g sheet block s.mode
  pub problem_is : s.problem ≡ problem_of g sheet s.mode
  pub edges_are : AreEdges g.ops s.problem.edges
  pub schedule : IsSchedule s.problem s.times
  pub chosen : IsChosen s.problem (slice_index s.times)
  pub cost_is : s.cost ≡ cost s.problem (slice_index s.times)
  pub flow_is : IsDualFlow s.problem s.flow
  pub value : HasValue s.problem s.flow s.cost
  pub amounts : AreWords s.flow

-- in its widest windows the behaviour has a legal schedule
abbrev pub FitsWidest : Graph → Sheet → Bool → Type 0
FitsWidest g sheet block = (m : Mode) → IsWidestModeOf g block m → HasSchedule (problem_of g sheet m)

-- there is no legal schedule in the widest windows, which the cycle shows
pub record IsUnschedulable (g : Graph) (sheet : Sheet) (block : Bool) (p : Problem) (cycle : List Bound) : Type 0 where
  pub widest : Mode
  pub widest_is : IsWidestModeOf g block widest
  pub problem_is : p ≡ problem_of g sheet widest
  pub edges_are : AreEdges g.ops p.edges
  pub none : HasSchedule p → ⊥
  pub cycle_is : IsContradiction p cycle

abbrev pub IsRefusal : Graph → Sheet → Bool → ModeErr → Type 0
IsRefusal g sheet block (NoSchedule p cycle) = IsUnschedulable g sheet block p cycle
IsRefusal g sheet block Memory = Unit {0}

-- the chosen schedule of a behaviour in a mode
pub record IsScheduledIn (g : Graph) (sheet : Sheet) (mode : Mode) (s : Scheduled) : Type 0 where
  pub mode_is : s.mode ≡ mode
  pub problem_is : s.problem ≡ problem_of g sheet mode
  pub edges_are : AreEdges g.ops s.problem.edges
  pub schedule : IsSchedule s.problem s.times
  pub chosen : IsChosen s.problem (slice_index s.times)
  pub cost_is : s.cost ≡ cost s.problem (slice_index s.times)
  pub flow_is : IsDualFlow s.problem s.flow
  pub value : HasValue s.problem s.flow s.cost
  pub amounts : AreWords s.flow

-- there is none in a mode, which the cycle shows
pub record IsWithout (g : Graph) (sheet : Sheet) (mode : Mode) (p : Problem) (cycle : List Bound) : Type 0 where
  pub problem_is : p ≡ problem_of g sheet mode
  pub edges_are : AreEdges g.ops p.edges
  pub none : HasSchedule p → ⊥
  pub cycle_is : IsContradiction p cycle

abbrev pub HasNoneIn : Graph → Sheet → Mode → ModeErr → Type 0
HasNoneIn g sheet mode (NoSchedule p cycle) = IsWithout g sheet mode p cycle
HasNoneIn g sheet mode Memory = Unit {0}
