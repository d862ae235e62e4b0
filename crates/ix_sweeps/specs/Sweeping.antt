-- The least periods of an extension's behaviours on a core, with the reports that show them (this project's choice; schedules are Longnail's).
use Rattle.std.specs.Prelude.{◌≡◌, ℕ, ◌≤◌, List, [], ◌∷◌, length, Bool, Option, Some, None}
use Rattle.ix_extension.specs.Extensions.{ExtensionTree}
use Rattle.ix_behaviour.specs.declared.which.Which.{Which}
use Rattle.ix_graph.specs.declared.graph.Graph.{Graph}
use Rattle.ix_graph_laws.specs.Operations.{operations_at}
use Rattle.ix_slots.specs.Found.{entries_of}
use Rattle.ix_graphs.specs.Graphed.{IsGraphAt}
use Rattle.ix_sheet.specs.declared.sheet.Sheet.{Sheet}
use Rattle.ix_cert.specs.declared.report.Report.{Report}
use Rattle.ix_cert.specs.declared.report.ReportBlock.{ReportBlock}
use Rattle.ix_sweep.specs.declared.answer.Entry.{Entry}
use Rattle.ix_sweep.specs.Periods.{at_period, IsPeriodOf, periods_of, refuted_at}
use Rattle.ix_schedules.specs.Scheduling.{name_at, is_block, IsReportedBy, IsWithoutBy, AtFirst}
use Rattle.ix_schedules.specs.ScheduleText.{IsTooManyText, alone}
use Rattle.ix_sweeps.specs.declared.sweeping.Swept.{Swept}
use Rattle.ix_sweeps.specs.declared.sweeping.SweepErr.{SweepErr}
use Rattle.ix_sweeps.specs.declared.sweeping.SweepErr.TheVariants.{TooManyOps, Memory}

abbrev pub period_of : Entry → ℕ
period_of entry = entry.period

-- ---- one behaviour, by its graph
-- the report is of the behaviour alone, with its mode and its chosen schedule with this period in place of the sheet's
pub record IsReportAt (name : List ℕ) (g : Graph) (sheet : Sheet) (block : Bool) (period : ℕ) (r : Report) : Type 0 where
  pub said : ReportBlock
  pub reported : IsReportedBy name g (at_period sheet period) block said
  pub report_is : r ≡ alone (at_period sheet period) said

-- one report for each of these periods, in order
abbrev pub AreReportsAt : List ℕ → Graph → Sheet → Bool → List ℕ → List Report → Type 0
AreReportsAt name g sheet block [] [] = Unit {0}
AreReportsAt name g sheet block (p ∷ ps) (r ∷ rs) = IsReportAt name g sheet block p r × AreReportsAt name g sheet block ps rs
AreReportsAt name g sheet block _ _ = ⊥

-- the report is of the behaviour alone, and shows by a cycle that it has no legal schedule with this period in its widest windows
pub record IsRefutationAt (name : List ℕ) (g : Graph) (sheet : Sheet) (block : Bool) (period : ℕ) (r : Report) : Type 0 where
  pub said : ReportBlock
  pub without : IsWithoutBy name g (at_period sheet period) block said
  pub report_is : r ≡ alone (at_period sheet period) said

-- .. with the period that is refuted, where one is
abbrev pub IsRefuted : List ℕ → Graph → Sheet → Bool → Option ℕ → Option Report → Type 0
IsRefuted name g sheet block None None = Unit {0}
IsRefuted name g sheet block (Some q) (Some r) = IsRefutationAt name g sheet block q r
IsRefuted name g sheet block _ _ = ⊥

-- the period is the least one; there are the reports with it, with twice and with four times as much, and the report with one less
pub record IsSweptBy (name : List ℕ) (g : Graph) (sheet : Sheet) (block : Bool) (s : Swept) : Type 0 where
  pub name_is : s.name ≡ name
  pub period_is : IsPeriodOf g sheet block s.period
  pub reports_are : AreReportsAt name g sheet block (periods_of s.period) s.reports
  pub below_is : IsRefuted name g sheet block (refuted_at s.period) s.below

-- ---- one behaviour of an extension
pub record IsSwept (x : ExtensionTree) (sheet : Sheet) (w : Which) (s : Swept) : Type 0 where
  pub graph : Graph
  pub graph_is : IsGraphAt x w (entries_of x.tables) graph
  pub said : IsSweptBy (name_at x w) graph sheet (is_block w) s

-- at most 256 operations
abbrev pub IsSmall : ExtensionTree → Which → Type 0
IsSmall x w = length (operations_at x w) ≤ 256

-- why a behaviour is not swept: it has more operations, and the line says so
abbrev pub IsLargeAs : ExtensionTree → SweepErr → Which → Type 0
IsLargeAs x (TooManyOps text) w = IsTooManyText x text w
IsLargeAs x Memory w = Unit {0}

-- ---- all behaviours
-- each in its turn
abbrev pub AreSwept : ExtensionTree → Sheet → List Which → List Swept → Type 0
AreSwept x sheet [] [] = Unit {0}
AreSwept x sheet (w ∷ ws) (s ∷ ss) = IsSwept x sheet w s × AreSwept x sheet ws ss
AreSwept x sheet _ _ = ⊥

-- of a list of behaviours the first that has too many operations, behind such as have not
abbrev pub IsFirstLarge : ExtensionTree → List Which → SweepErr → Type 0
IsFirstLarge x ws (TooManyOps text) = AtFirst (IsSmall x) (IsTooManyText x text) ws
IsFirstLarge x ws Memory = Unit {0}
