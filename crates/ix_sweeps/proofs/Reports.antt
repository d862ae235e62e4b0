-- The reports of a behaviour: what was found of it with a period, and one report behind the other.
use Rattle.std.proofs.Common.{◌≡◌, sym, subst, ℕ, Bool, List, [], ◌∷◌, ◌++◌, map, Option, Some, None}
use Rattle.std.proofs.lemmas.List.{map-append}
use Rattle.ix_graph.specs.declared.graph.Graph.{Graph}
use Rattle.ix_sheet.specs.declared.sheet.Sheet.{Sheet}
use Rattle.ix_sheet.specs.declared.problem.Problem.{Problem}
use Rattle.ix_sheet.specs.declared.problem.Bound.{Bound}
use Rattle.ix_modes.specs.Modes.{IsUnschedulable}
use Rattle.ix_cert.specs.declared.report.Report.{Report}
use Rattle.ix_cert.specs.declared.report.ReportBlock.{ReportBlock}
use Rattle.ix_reports.specs.Blocks.{SaysSchedule, SaysNone, IsSound}
use Rattle.ix_sweep.specs.declared.answer.Entry.{Entry}
use Rattle.ix_sweep.specs.Periods.{at_period, IsEntry, IsBelow, AreEntries, IsPeriodOf, periods_of, refuted_at}
use Rattle.ix_schedules.specs.ScheduleText.{alone}
use Rattle.ix_sweeps.specs.declared.sweeping.Swept.{Swept}
use Rattle.ix_sweeps.specs.Sweeping.{period_of, IsReportAt, AreReportsAt, IsRefutationAt, IsRefuted, IsSweptBy}

pub report_made : (name : List ℕ) (g : Graph) (sheet : Sheet) (block : Bool) (entry : Entry) (there : Sheet) (said : ReportBlock) (r : Report) → there ≡ at_period sheet entry.period → IsEntry g sheet block entry →
    SaysSchedule name g entry.scheduled said → IsSound there.weighted there.period said → r ≡ alone there said → IsReportAt name g sheet block entry.period r
report_made name g sheet block entry there said r same is says sound made = record {
  said = said;
  reported = record {
    scheduled = entry.scheduled;
    schedule = is.scheduled;
    fits = is.fits;
    says = says;
    sound = subst (λ (s : Sheet). IsSound s.weighted s.period said) same sound;
  };
  report_is = subst (λ (s : Sheet). r ≡ alone s said) same made;
}

pub refutation_made : (name : List ℕ) (g : Graph) (sheet : Sheet) (block : Bool) (period : ℕ) (problem : Problem) (cycle : List Bound) (there : Sheet) (said : ReportBlock) (r : Report) → there ≡ at_period sheet period →
    IsUnschedulable g (at_period sheet period) block problem cycle → SaysNone name g problem cycle said → IsSound there.weighted there.period said → r ≡ alone there said → IsRefutationAt name g sheet block period r
refutation_made name g sheet block period problem cycle there said r same none says sound made = record {
  said = said;
  without = record {
    problem = problem;
    cycle = cycle;
    none = none;
    says = says;
    sound = subst (λ (s : Sheet). IsSound s.weighted s.period said) same sound;
  };
  report_is = subst (λ (s : Sheet). r ≡ alone s said) same made;
}

-- one more report
reports_push : (name : List ℕ) (g : Graph) (sheet : Sheet) (block : Bool) (ps : List ℕ) (rs : List Report) (p : ℕ) (r : Report) → AreReportsAt name g sheet block ps rs → IsReportAt name g sheet block p r →
    AreReportsAt name g sheet block (ps ++ p ∷ []) (rs ++ r ∷ [])
reports_push name g sheet block [] [] p r so_far one = (one, tt)
reports_push name g sheet block [] (s ∷ rs) p r so_far one = absurd so_far
reports_push name g sheet block (q ∷ ps) [] p r so_far one = absurd so_far
reports_push name g sheet block (q ∷ ps) (s ∷ rs) p r so_far one = (so_far.0, reports_push name g sheet block ps rs p r so_far.1 one)

pub reports_more : (name : List ℕ) (g : Graph) (sheet : Sheet) (block : Bool) (entries : List Entry) (entry : Entry) (rs all : List Report) (r : Report) → all ≡ rs ++ r ∷ [] → AreReportsAt name g sheet block (map period_of entries) rs →
    IsReportAt name g sheet block entry.period r → AreReportsAt name g sheet block (map period_of (entries ++ entry ∷ [])) all
reports_more name g sheet block entries entry rs all r grown so_far one =
    subst (λ ps. AreReportsAt name g sheet block ps all) (sym (map-append period_of entries (entry ∷ [])))
    (subst (λ l. AreReportsAt name g sheet block (map period_of entries ++ entry.period ∷ []) l) (sym grown)
    (reports_push name g sheet block (map period_of entries) rs entry.period r so_far one))

-- no period is refuted
pub none_refuted : (name : List ℕ) (g : Graph) (sheet : Sheet) (block : Bool) (q : Option ℕ) → q ≡ None → IsRefuted name g sheet block q None
none_refuted name g sheet block q e = subst (λ o. IsRefuted name g sheet block o None) (sym e) tt

-- one is
pub one_refuted : (name : List ℕ) (g : Graph) (sheet : Sheet) (block : Bool) (o : Option ℕ) (q : ℕ) (r : Report) → o ≡ Some q → IsRefutationAt name g sheet block q r → IsRefuted name g sheet block o (Some r)
one_refuted name g sheet block o q r e h = subst (λ p. IsRefuted name g sheet block p (Some r)) (sym e) h

pub below_is : (g : Graph) (sheet : Sheet) (block : Bool) (o : Option ℕ) (q : ℕ) (below : Option (Problem × List Bound)) → o ≡ Some q → IsBelow g sheet block o below → IsBelow g sheet block (Some q) below
below_is g sheet block o q below e h = subst (λ p. IsBelow g sheet block p below) e h

-- what is said of a behaviour
pub swept_made : (name : List ℕ) (g : Graph) (sheet : Sheet) (block : Bool) (s : Swept) (entries : List Entry) → s.name ≡ name → IsPeriodOf g sheet block s.period → AreEntries g sheet block (periods_of s.period) entries →
    AreReportsAt name g sheet block (map period_of entries) s.reports → IsRefuted name g sheet block (refuted_at s.period) s.below → IsSweptBy name g sheet block s
swept_made name g sheet block s entries named is found reports below = record {
  name_is = named;
  period_is = is;
  reports_are = subst (λ ps. AreReportsAt name g sheet block ps s.reports) found.periods_are reports;
  below_is = below;
}
