-- The widest mode is one; what is known of it at a period.
use Rattle.std.proofs.Common.{ap, false, ◌⊎◌, inl, inr, lit≤, ◌≡◌, sym, ◌∙◌, refl, subst, ℕ, ◌-◌, ◌≤◌, ◌<◌, Bool, true, List, arith}
use Rattle.std.specs.Prelude.{is_some, Option, Some, None, nat_lt}
use Rattle.std.proofs.lemmas.Bool.{false≢true}
use Rattle.std.proofs.lemmas.Bool.Decides.{nat_tests}
use Rattle.ix_graph.specs.declared.graph.Graph.{Graph}
use Rattle.ix_graph.specs.declared.graph.Mode.{Mode}
use Rattle.ix_graph.specs.declared.graph.Mode.TheVariants.{InPipeline, Tight, Decoupled, Always}
use Rattle.ix_graph.specs.Graphs.{IsValidGraph}
use Rattle.ix_sheet.specs.declared.problem.Bound.{Bound}
use Rattle.ix_sheet.specs.declared.problem.Problem.{Problem}
use Rattle.ix_sheet.specs.declared.sheet.Sheet.{Sheet}
use Rattle.ix_sheet.specs.Schedules.{HasSchedule}
use Rattle.ix_sheet.specs.Behaviours.{problem_of, AreEdges, IsWidestModeOf}
use Rattle.ix_sheet.proofs.Cycles.{no_schedule}
use Rattle.ix_sheet.proofs.ProblemLemmas.{problem_is_valid}
use Rattle.ix_modes.specs.Modes.{FitsWidest, IsUnschedulable}
use Rattle.ix_sweep.specs.Periods.{at_period, FitsAt, IsLeastPeriod, IsPeriodOf, refuted_at, IsBelow, IsDecided, IsTested}
use Rattle.ix_sweep.proofs.Later.{fits_later, nowhere}

-- a behaviour has one widest mode
pub widest_one : (g : Graph) (block : Bool) (m n : Mode) → IsWidestModeOf g block m → IsWidestModeOf g block n → m ≡ n
widest_one g block Always Always h k = refl
widest_one g block Always Decoupled h k = absurd (false≢true (sym k.0 ∙ h))
widest_one g block Always InPipeline h k = absurd k
widest_one g block Always Tight h k = absurd (false≢true (sym k.0 ∙ h))
widest_one g block Decoupled Always h k = absurd (false≢true (sym h.0 ∙ k))
widest_one g block Decoupled Decoupled h k = refl
widest_one g block Decoupled InPipeline h k = absurd k
widest_one g block Decoupled Tight h k = absurd (k.1 h.1)
widest_one g block InPipeline n h k = absurd h
widest_one g block Tight Always h k = absurd (false≢true (sym h.0 ∙ k))
widest_one g block Tight Decoupled h k = absurd (h.1 k.1)
widest_one g block Tight InPipeline h k = absurd k
widest_one g block Tight Tight h k = refl

-- what fits in the widest mode fits the behaviour
pub fits_widest : (g : Graph) (sheet : Sheet) (block : Bool) (mode : Mode) (p : ℕ) → IsWidestModeOf g block mode → FitsAt g sheet mode p → FitsWidest g (at_period sheet p) block
fits_widest g sheet block mode p w h m v = subst (λ n. FitsAt g sheet n p) (widest_one g block mode m w v) h

pub widest_later : (g : Graph) (sheet : Sheet) (block : Bool) (p q : ℕ) → p ≤ q → FitsWidest g (at_period sheet p) block → FitsWidest g (at_period sheet q) block
widest_later g sheet block p q le h m w = fits_later g sheet m p q le (h m w)

-- what fits is not refused
pub not_refused : (g : Graph) (sheet : Sheet) (block : Bool) (p : Problem) (cycle : List Bound) → FitsWidest g sheet block → IsUnschedulable g sheet block p cycle → ⊥
not_refused g sheet block p cycle fits refused = refused.none (subst (λ q. HasSchedule q) (sym refused.problem_is) (fits refused.widest refused.widest_is))

-- a contradiction in a behaviour's problem
pub without : (g : Graph) (sheet : Sheet) (mode : Mode) (q : ℕ) (p : Problem) (cycle : List Bound) → IsValidGraph g → p ≡ problem_of g (at_period sheet q) mode → AreEdges g.ops p.edges →
    IsDecided p (Some cycle) → IsTested g sheet mode q (Some (p, cycle))
without g sheet mode q p cycle valid is edges bad = record {
  problem_is = is;
  edges_are = edges;
  none = λ some. no_schedule p (rw is (problem_is_valid g (at_period sheet q) mode valid)) cycle bad some.0 some.1;
  cycle_is = bad;
}

-- a test that found a contradiction: the behaviour does not fit
pub refuted : (g : Graph) (sheet : Sheet) (mode : Mode) (q : ℕ) (below : Problem × List Bound) → IsTested g sheet mode q (Some below) → FitsAt g sheet mode q → ⊥
refuted g sheet mode q below tested fits = tested.none (subst (λ p. HasSchedule p) (sym tested.problem_is) fits)

pub unschedulable : (g : Graph) (sheet : Sheet) (block : Bool) (mode : Mode) (q : ℕ) (below : Problem × List Bound) → IsWidestModeOf g block mode → IsTested g sheet mode q (Some below) →
    IsUnschedulable g (at_period sheet q) block below.0 below.1
unschedulable g sheet block mode q below widest tested = record {
  widest = mode;
  widest_is = widest;
  problem_is = tested.problem_is;
  edges_are = tested.edges_are;
  none = tested.none;
  cycle_is = tested.cycle_is;
}

below_at : (g : Graph) (sheet : Sheet) (block : Bool) (mode : Mode) (p : ℕ) (below : Option (Problem × List Bound)) → IsWidestModeOf g block mode → IsLeastPeriod g sheet mode p →
    1 < p → IsTested g sheet mode (p - 1) below → IsBelow g sheet block (Some (p - 1)) below
below_at g sheet block mode p None widest least above tested = absurd (least.least (p - 1) (omega arith) (omega arith) tested)
below_at g sheet block mode p (Some below) widest least above tested = unschedulable g sheet block mode (p - 1) below widest tested

is_above : (p : ℕ) → 1 < p → nat_lt 1 p ≡ true
is_above p h = grind (arith, nat_tests)

-- below a least period above 1
pub below_least : (g : Graph) (sheet : Sheet) (block : Bool) (mode : Mode) (p : ℕ) (below : Option (Problem × List Bound)) → IsWidestModeOf g block mode → IsLeastPeriod g sheet mode p →
    1 < p → IsTested g sheet mode (p - 1) below → IsBelow g sheet block (refuted_at (Some p)) below
below_least g sheet block mode p below widest least above tested = rw (is_above p above) (below_at g sheet block mode p below widest least above tested)

-- there is no least period
pub none_fits : (g : Graph) (sheet : Sheet) (block : Bool) (mode : Mode) (below : Problem × List Bound) → IsWidestModeOf g block mode → IsTested g sheet mode 1000000 (Some below) →
    IsPeriodOf g sheet block None
none_fits g sheet block mode below widest tested = record {
  widest = mode;
  widest_is = widest;
  period_is = λ q some most fits. nowhere g sheet mode 1000000 (refuted g sheet mode 1000000 below tested) q most fits;
}

abbrev value : Option ℕ → ℕ
value None = 0
value (Some x) = x

in_range : (p q : ℕ) → 1 ≤ p → p ≤ 1000000 → Some p ≡ Some q → (1 ≤ q) × (q ≤ 1000000)
in_range p q some most e = let same : p ≡ q = ap value e in (omega arith, omega arith)

above_or_not : (p : ℕ) → ((nat_lt 1 p ≡ true) × (1 < p)) ⊎ (nat_lt 1 p ≡ false)
above_or_not p = grind (arith, nat_tests)

below_in_range : (p q : ℕ) → p ≤ 1000000 → refuted_at (Some p) ≡ Some q → (1 ≤ q) × (q ≤ 1000000)
below_in_range p q most e =
    elim (above_or_not p) [
      | inl above ↦ in_range (p - 1) q (omega (arith, above.1)) (omega arith) (rw above.0 at e)
      | inr least ↦ absurd (false≢true (ap (λ (o : Option ℕ). is_some o) (rw least at e)))
    ]

-- the period that is refuted is one that a sheet may have
pub refuted_in_range : (g : Graph) (sheet : Sheet) (block : Bool) (period : Option ℕ) (q : ℕ) → IsPeriodOf g sheet block period → refuted_at period ≡ Some q → (1 ≤ q) × (q ≤ 1000000)
refuted_in_range g sheet block None q is e = in_range 1000000 q (lit≤ tt) (lit≤ tt) e
refuted_in_range g sheet block (Some p) q is e = below_in_range p q is.period_is.most e
