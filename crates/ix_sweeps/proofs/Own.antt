-- The period of the datasheet itself changes no sweep.
use Rattle.std.proofs.Common.{ℕ, Bool, List, [], ◌∷◌, Option, Some, None}
use Rattle.ix_extension.specs.Extensions.{ExtensionTree}
use Rattle.ix_behaviour.specs.declared.which.Which.{Which}
use Rattle.ix_graph.specs.declared.graph.Graph.{Graph}
use Rattle.ix_graph.specs.declared.graph.Mode.{Mode}
use Rattle.ix_sheet.specs.declared.sheet.Sheet.{Sheet}
use Rattle.ix_cert.specs.declared.report.Report.{Report}
use Rattle.ix_sweep.specs.Periods.{at_period, IsPeriodIn, periods_of, refuted_at}
use Rattle.ix_schedules.specs.Scheduling.{behaviours_of, name_at, is_block}
use Rattle.ix_sweeps.specs.declared.sweeping.Swept.{Swept}
use Rattle.ix_sweeps.specs.Sweeping.{AreReportsAt, IsRefuted, IsSweptBy, AreSwept}
use Rattle.ix_sweeps.specs.SweepText.{IsSweepText}

period_own : (g : Graph) (sheet : Sheet) (p : ℕ) (mode : Mode) (period : Option ℕ) → IsPeriodIn g (at_period sheet p) mode period → IsPeriodIn g sheet mode period
period_own g sheet p mode None h = h
period_own g sheet p mode (Some q) h = record { some = h.some; most = h.most; fits = h.fits; least = h.least }

reports_own : (name : List ℕ) (g : Graph) (sheet : Sheet) (block : Bool) (p : ℕ) (ps : List ℕ) (rs : List Report) → AreReportsAt name g (at_period sheet p) block ps rs → AreReportsAt name g sheet block ps rs
reports_own name g sheet block p [] [] h = tt
reports_own name g sheet block p [] (r ∷ rs) h = h
reports_own name g sheet block p (q ∷ ps) [] h = h
reports_own name g sheet block p (q ∷ ps) (r ∷ rs) h =
    (record { said = h.0.said; reported = h.0.reported; report_is = h.0.report_is }, reports_own name g sheet block p ps rs h.1)

refuted_own : (name : List ℕ) (g : Graph) (sheet : Sheet) (block : Bool) (p : ℕ) (q : Option ℕ) (r : Option Report) → IsRefuted name g (at_period sheet p) block q r → IsRefuted name g sheet block q r
refuted_own name g sheet block p None None h = tt
refuted_own name g sheet block p None (Some r) h = h
refuted_own name g sheet block p (Some q) None h = h
refuted_own name g sheet block p (Some q) (Some r) h = record { said = h.said; without = h.without; report_is = h.report_is }

said_own : (name : List ℕ) (g : Graph) (sheet : Sheet) (block : Bool) (p : ℕ) (s : Swept) → IsSweptBy name g (at_period sheet p) block s → IsSweptBy name g sheet block s
said_own name g sheet block p s h = record {
  name_is = h.name_is;
  period_is = record { widest = h.period_is.widest; widest_is = h.period_is.widest_is; period_is = period_own g sheet p h.period_is.widest s.period h.period_is.period_is };
  reports_are = reports_own name g sheet block p (periods_of s.period) s.reports h.reports_are;
  below_is = refuted_own name g sheet block p (refuted_at s.period) s.below h.below_is;
}

swept_own : (x : ExtensionTree) (sheet : Sheet) (p : ℕ) (ws : List Which) (ss : List Swept) → AreSwept x (at_period sheet p) ws ss → AreSwept x sheet ws ss
swept_own x sheet p [] [] h = tt
swept_own x sheet p [] (s ∷ ss) h = h
swept_own x sheet p (w ∷ ws) [] h = h
swept_own x sheet p (w ∷ ws) (s ∷ ss) h =
    (record { graph = h.0.graph; graph_is = h.0.graph_is; said = said_own (name_at x w) h.0.graph sheet (is_block w) p s h.0.said }, swept_own x sheet p ws ss h.1)

pub text_own : (x : ExtensionTree) (sheet : Sheet) (p : ℕ) (text : List ℕ) → IsSweepText x (at_period sheet p) text → IsSweepText x sheet text
text_own x sheet p text h = record { sweeps = h.sweeps; swept = swept_own x sheet p (behaviours_of x) h.sweeps h.swept; printed = h.printed; faultless = h.faultless }
