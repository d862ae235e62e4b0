-- What the solver promises of a schedule and of a cycle leaves the check of a report no fault.
use Rattle.std.proofs.Common.{◌≡◌, ◌≢◌, ◌∙◌, sym, ap, ℕ, zero, suc, ◌-◌, ◌≤◌, ◌<◌, List, [], ◌∷◌, ◌++◌, length, get_or, arith}
use Rattle.std.specs.Prelude.{slice_index_or}
use Rattle.std.proofs.lemmas.List.Elements.{All-get_or}
use Rattle.ix_sheet.specs.declared.problem.Bound.{Bound}
use Rattle.ix_sheet.specs.declared.problem.Bound.TheVariants.{Early}
use Rattle.ix_sheet.specs.declared.problem.Problem.{Problem}
use Rattle.ix_sheet.specs.Schedules.{IsAfter, IsSchedule, cost}
use Rattle.ix_sheet.specs.Bounds.{IsBoundOf, arc_of, IsDualFlow, HasValue, Leads, IsContradiction}
use Rattle.ix_cert.specs.declared.report.ReportBlock.{ReportBlock}
use Rattle.ix_cert.specs.Faults.{HasNoFault, times_of, blank_part, end_before, times_steps, flow_steps, cycle_steps}

passes : (delay period : ℕ) → delay ≤ period → period < delay → ⊥
passes delay period h long = omega arith

pub schedule_faultless : (b : ReportBlock) → IsSchedule b.problem b.times → b.cost ≡ cost b.problem (times_of b) → IsDualFlow b.problem b.flow
    → HasValue b.problem b.flow b.cost → (first : ℕ) → HasNoFault (times_steps b first ++ flow_steps b first)
schedule_faultless b s cost_is dual value first = (
  (λ k h bad. bad (All-get_or (IsAfter b.problem (times_of b)) b.problem.edges k (0, 0) h s.legal.edges)),
  (
    (λ k h bad. bad (s.legal.windows k h)),
    (
      (λ k h bad. passes _ b.problem.period (s.legal.period bad.path bad.free bad.one_time) bad.long),
      (
        (λ k h bad. bad cost_is),
        (
          (λ k h bad. bad (All-get_or (λ c. IsBoundOf b.problem c.0) b.flow k blank_part h dual.bounds)),
          (
            (λ k h bad. bad (dual.balanced k h)),
            ((λ k h bad. bad value), tt),
          ),
        ),
      ),
    ),
  ),
)

-- ---- a closed list of bounds
leads_next : (p : Problem) (a c : ℕ) (xs : List Bound) (k : ℕ) (d : Bound) → Leads p a xs c → suc k < length xs
    → (arc_of p (get_or xs (suc k) d)).from ≡ (arc_of p (get_or xs k d)).to
leads_next p a c [] k d leads h = omega arith
leads_next p a c (x ∷ []) k d leads h = omega arith
leads_next p a c (x ∷ (y ∷ ys)) zero d leads h = leads.1.0
leads_next p a c (x ∷ (y ∷ ys)) (suc k) d leads h = leads_next p (arc_of p x).to c (y ∷ ys) k d leads.1 (omega arith)

leads_last : (p : Problem) (a c : ℕ) (x : Bound) (xs : List Bound) (d : Bound) → Leads p a (x ∷ xs) c → (arc_of p (get_or (x ∷ xs) (length xs) d)).to ≡ c
leads_last p a c x [] d leads = leads.1
leads_last p a c x (y ∷ ys) d leads = leads_last p (arc_of p x).to c y ys d leads.1

closed : (p : Problem) (xs : List Bound) (a : ℕ) → Leads p a xs a → (k : ℕ) → k < length xs
    → ((arc_of p (slice_index_or xs k (Early 0))).from ≢ end_before p xs k) → ⊥
closed p [] a leads k h gap = omega arith
closed p (x ∷ xs) a leads zero h gap =
    let last : length (x ∷ xs) - 1 ≡ length xs = omega arith in
    gap (leads.0 ∙ sym (leads_last p a a x xs (Early 0) leads) ∙ sym (ap (λ n. (arc_of p (get_or (x ∷ xs) n (Early 0))).to) last))
closed p (x ∷ xs) a leads (suc k) h gap = gap (leads_next p a a (x ∷ xs) k (Early 0) leads h)

not_positive : (up down : ℕ) → down < up → up ≤ down → ⊥
not_positive up down h g = omega arith

pub cycle_faultless : (b : ReportBlock) → IsContradiction b.problem b.cycle → (first : ℕ) → HasNoFault (cycle_steps b first)
cycle_faultless b c first = (
  (λ k h bad. bad (All-get_or (IsBoundOf b.problem) b.cycle k (Early 0) h c.bounds)),
  (
    (λ k h bad. closed b.problem b.cycle c.closed.0 c.closed.1 k h bad),
    ((λ k h bad. not_positive _ _ c.positive bad), tt),
  ),
)
