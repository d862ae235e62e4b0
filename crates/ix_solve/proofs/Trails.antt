-- The way back along parents.
use Rattle.std.proofs.Common.{◌≡◌, ℕ, ◌+◌, ◌≤◌, ◌<◌, List, [], ◌∷◌, ◌++◌, length, get_or, refl, sym, ◌∙◌, ap, arith, reverse}
use Rattle.std.specs.Prelude.{All}
use Rattle.std.proofs.lemmas.List.{reverse-append}
use Rattle.std.proofs.lemmas.List.Elements.{All-contains, All-cons, All-nil}
use Rattle.ix_sheet.specs.declared.problem.Arc.{Arc}
use Rattle.ix_sheet.specs.Bounds.{Meets, IsTight}
use Rattle.ix_solve.specs.declared.search.Step.{Step}
use Rattle.ix_solve.specs.Search.{step_at, HasReached, Follows, AreApart}
use Rattle.ix_solve.proofs.Steps.{step_one}

-- the step j comes after the step k, and by no more than the times allow
pub record IsLater (log : List Step) (x : ℕ → ℕ) (k j : ℕ) : Type 0 where
  pub after : k < j
  pub within : j < length log
  pub longest : (step_at log j).reached + x (step_at log k).arc.to ≤ (step_at log k).reached + x (step_at log j).arc.to

pub record IsTrail (reach : List ℕ) (log : List Step) (x : ℕ → ℕ) (t k : ℕ) (steps : List ℕ) : Type 0 where
  pub within : k < length log
  pub leads : Follows log k steps t
  pub apart : AreApart log k steps
  pub later : All (IsLater log x k) steps
  pub exact : (step_at log k).reached ≡ get_or reach (step_at log k).arc.to 0
  pub tight : All (λ j. IsTight (λ v. get_or reach v 0) (step_at log j).arc) steps

pub trail_more : (n source base cap : ℕ) (arcs : List Arc) (reach last : List ℕ) (log : List Step) (x : ℕ → ℕ) (t k : ℕ) (steps : List ℕ) →
    HasReached n source base cap arcs reach last log → All (Meets x) arcs → All (Meets (λ v. get_or reach v 0)) arcs → 0 < k → IsTrail reach log x t k steps →
    IsTrail reach log x t (step_at log k).parent (k ∷ steps)
trail_more n source base cap arcs reach last log x t k steps h met settled pos w =
    let s = h.steps k pos w.within in
    let p = (step_at log k).parent in
    let a = (step_at log k).arc in
    let m : Meets x a = All-contains (Meets x) arcs a met (step_one arcs log k s) in
    let here : get_or reach a.from 0 + a.up ≤ get_or reach a.to 0 + a.down = All-contains (Meets (λ v. get_or reach v 0)) arcs a settled (step_one arcs log k s) in
    let before : get_or reach a.from 0 ≡ get_or reach (step_at log p).arc.to 0 = ap (λ v. get_or reach v 0) s.joined in
    let top = h.top p (omega (arith, s.earlier, w.within)) in
    let e : x a.from ≡ x (step_at log p).arc.to = ap x s.joined in
    let first : IsLater log x p k = record { after = s.earlier; within = w.within; longest = omega (arith, s.longer) } in
    let later : All (IsLater log x p) (k ∷ steps) = All-cons (IsLater log x p) k steps first
    (λ i d b. let l = w.later i d b in record {
      after = omega (arith, l.after, s.earlier);
      within = l.within;
      longest = omega (arith, l.longest, first.longest);
    }) in
    record {
      within = omega (arith, s.earlier, w.within);
      leads = (refl, w.within, w.leads);
      apart = (
        (λ i d b same.
            (let l = later i d b in
            let j = get_or (k ∷ steps) i d in
            let up = h.strict p j l.after l.within (sym same) in
            let at : x (step_at log j).arc.to ≡ x (step_at log p).arc.to = ap x same in
            omega (arith, l.longest))),
        w.apart,
      );
      later = later;
      exact = omega (arith, s.longer, w.exact);
      tight = All-cons (λ j. IsTight (λ v. get_or reach v 0) (step_at log j).arc) k steps (omega (arith, s.longer, w.exact)) w.tight;
    }

pub trail_more_at : (n source base cap : ℕ) (arcs : List Arc) (reach last : List ℕ) (log : List Step) (x : ℕ → ℕ) (t k : ℕ) (back new : List ℕ) (s : Step) →
    HasReached n source base cap arcs reach last log → All (Meets x) arcs → All (Meets (λ v. get_or reach v 0)) arcs → 0 < k → IsTrail reach log x t k (reverse back) → s ≡ step_at log k → new ≡ back ++ k ∷ [] →
    IsTrail reach log x t s.parent (reverse new)
trail_more_at n source base cap arcs reach last log x t k back new s h met settled pos w es en =
    rw (en, es, reverse-append back (k ∷ [])) (trail_more n source base cap arcs reach last log x t k (reverse back) h met settled pos w)

pub trail_start : (n source base cap : ℕ) (arcs : List Arc) (reach last : List ℕ) (log : List Step) (x : ℕ → ℕ) (t : ℕ) →
    HasReached n source base cap arcs reach last log → t ≤ n → IsTrail reach log x t (get_or last t 0) []
trail_start n source base cap arcs reach last log x t h b =
    let r = h.nodes t b in
    record { within = r.within; leads = r.ends; apart = tt; later = All-nil (IsLater log x (get_or last t 0)); exact = r.same ∙ ap (λ v. get_or reach v 0) (sym r.ends); tight = All-nil (λ j. IsTight (λ v. get_or reach v 0) (step_at log j).arc) }
