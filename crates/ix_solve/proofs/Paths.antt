-- The path of a trail.
use Rattle.std.proofs.Common.{◌≡◌, ℕ, zero, suc, ◌+◌, ◌-◌, ◌≤◌, ◌<◌, nat_lt, cond, Bool, true, false, List, [], ◌∷◌, length, map, get_or, refl, sym, ◌∙◌, ap, arith, ◌⊎◌, inl, inr}
use Rattle.std.specs.Prelude.{All, Contains}
use Rattle.std.proofs.lemmas.List.Elements.{All-head, All-tail, Contains-get_or}
use Rattle.std.proofs.lemmas.Bool.Decides.{nat_tests}
use Rattle.ix_sheet.specs.declared.problem.Arc.{Arc}
use Rattle.ix_sheet.specs.Bounds.{IsTight}
use Rattle.ix_residual.specs.Residuals.{place_at}
use Rattle.ix_solve.specs.declared.network.Network.{Network}
use Rattle.ix_solve.specs.declared.search.Step.{Step}
use Rattle.ix_solve.specs.Search.{arc_at, step_at, HasReached, Follows, AreApart}
use Rattle.ix_solve.specs.Networks.{step_from, step_to, node_after, IsNetwork, step_of}

-- the steps of a trail, as inequalities
abbrev pub steps_of : Network → List Step → List ℕ → List (ℕ × Bool)
steps_of net log js = map (λ j. step_of net (step_at log j).place) js

-- a step stands for its arc
pub record IsPlaced (net : Network) (s : ℕ × Bool) (a : Arc) : Type 0 where
  pub within : s.0 < net.bounds
  pub from : step_from net.arcs.items s ≡ a.from
  pub to : step_to net.arcs.items s ≡ a.to
  pub carried : s.1 ≡ false → Contains net.back.items s.0
  pub tight : (t : ℕ → ℕ) → IsTight t a → IsTight t (arc_at net.arcs.items s.0)

low_or_high : (p m : ℕ) → ((nat_lt p m ≡ true) × (p < m)) ⊎ ((nat_lt p m ≡ false) × (m ≤ p))
low_or_high p m = grind (arith, nat_tests)

both : (b : Bool) → b ≡ true → b ≡ false → ⊥
both b p q = cc

pub placed : (net : Network) (p : ℕ) → IsNetwork net → p < length net.arcs.items → IsPlaced net (step_of net p) (arc_at net.arcs.items p)
placed net p h b =
    elim (low_or_high p net.bounds) [
      | inl low ↦ rw low.0 (record { within = low.1; from = refl; to = refl; carried = λ e. absurd (both true refl e); tight = λ t e. e })
      | inr high ↦
          (let i = p - net.bounds in
          let i_in : i < length net.back.items = omega (arith, h.len) in
          let sum : net.bounds + i ≡ p = omega (arith, high.1) in
          let a = h.against i i_in in
          let e : arc_at net.arcs.items p ≡ _ = ap (λ q. arc_at net.arcs.items q) (sym sum) ∙ a.1 in
          rw (high.0, e) (record {
            within = a.0;
            from = refl;
            to = refl;
            carried = λ _. Contains-get_or net.back.items i 0 i_in;
            tight = λ t met. sym met;
          }))
    ]

-- a trail's step, and the place that it stands for
step_placed : (n source base cap : ℕ) (net : Network) (reach last : List ℕ) (log : List Step) (j k : ℕ) →
    HasReached n source base cap net.arcs.items reach last log → IsNetwork net → (step_at log j).parent ≡ k → 0 < j → j < length log →
    (p : ℕ × Bool) × (p ≡ step_of net (step_at log j).place) × (p.0 < net.bounds) × (step_from net.arcs.items p ≡ (step_at log k).arc.to) × (step_to net.arcs.items p ≡ (step_at log j).arc.to)
step_placed n source base cap net reach last log j k h res parent pos within =
    let s = h.steps j pos within in
    let p = step_of net (step_at log j).place in
    let is = placed net (step_at log j).place res s.placed.0 in
    let from : (arc_at net.arcs.items (step_at log j).place).from ≡ (step_at log j).arc.from = ap (λ (a : Arc). a.from) s.placed.1 in
    let to : (arc_at net.arcs.items (step_at log j).place).to ≡ (step_at log j).arc.to = ap (λ (a : Arc). a.to) s.placed.1 in
    let up : (step_at log (step_at log j).parent).arc.to ≡ (step_at log k).arc.to = ap (λ q. (step_at log q).arc.to) parent in
    (p, refl, is.within, is.from ∙ from ∙ s.joined ∙ up, is.to ∙ to)

pub at_places : (net : Network) (log : List Step) (js : List ℕ) (i : ℕ) → i < length (steps_of net log js) →
    (i < length js) × (place_at (steps_of net log js) i ≡ step_of net (step_at log (get_or js i 0)).place)
at_places net log [] i b = absurd (omega arith)
at_places net log (j ∷ js) zero b = (omega arith, refl)
at_places net log (j ∷ js) (suc i) b = let r = at_places net log js i (omega arith) in (omega (arith, r.0), r.1)

two_ways : (a b : Bool) (from to : ℕ) → (cond b to from ≡ cond a from to) ⊎ (cond b to from ≡ cond a to from)
two_ways true true from to = inr refl
two_ways true false from to = inl refl
two_ways false true from to = inl refl
two_ways false false from to = inr refl

-- a bound's step ends at one of the bound's two ends
pub two_ends : (arcs : List Arc) (p q : ℕ × Bool) → p.0 ≡ q.0 → (step_to arcs q ≡ step_from arcs p) ⊎ (step_to arcs q ≡ step_to arcs p)
two_ends arcs p q e = rw e (two_ways p.1 q.1 (arc_at arcs q.0).from (arc_at arcs q.0).to)

pub path_joined : (n source base cap : ℕ) (net : Network) (reach last : List ℕ) (log : List Step) (t k : ℕ) (js : List ℕ) →
    HasReached n source base cap net.arcs.items reach last log → IsNetwork net → Follows log k js t → All (λ j. 0 < j) js →
    (i : ℕ) → i < length (steps_of net log js) →
    ((place_at (steps_of net log js) i).0 < net.bounds)
    × (step_from net.arcs.items (place_at (steps_of net log js) i) ≡ node_after net.arcs.items (step_at log k).arc.to (steps_of net log js) i)
path_joined n source base cap net reach last log t k [] h res f pos i b = absurd (omega arith)
path_joined n source base cap net reach last log t k (j ∷ js) h res f pos zero b =
    let p = step_placed n source base cap net reach last log j k h res f.0 (All-head (λ j. 0 < j) j js pos) f.1 in
    (rw p.1 at p.2, rw p.1 at p.3)
path_joined n source base cap net reach last log t k (j ∷ js) h res f pos (suc zero) b =
    let p = step_placed n source base cap net reach last log j k h res f.0 (All-head (λ j. 0 < j) j js pos) f.1 in
    let r = path_joined n source base cap net reach last log t j js h res f.2 (All-tail (λ j. 0 < j) j js pos) zero (omega arith) in
    (r.0, r.1 ∙ sym (rw p.1 at p.4))
path_joined n source base cap net reach last log t k (j ∷ js) h res f pos (suc (suc i)) b =
    path_joined n source base cap net reach last log t j js h res f.2 (All-tail (λ j. 0 < j) j js pos) (suc i) (omega arith)

later_to : (n source base cap : ℕ) (net : Network) (reach last : List ℕ) (log : List Step) (t k : ℕ) (js : List ℕ) →
    HasReached n source base cap net.arcs.items reach last log → IsNetwork net → Follows log k js t → All (λ j. 0 < j) js → (l : ℕ) → l < length js →
    step_to net.arcs.items (step_of net (step_at log (get_or js l 0)).place) ≡ (step_at log (get_or js l 0)).arc.to
later_to n source base cap net reach last log t k [] h res f pos l b = absurd (omega arith)
later_to n source base cap net reach last log t k (j ∷ js) h res f pos zero b =
    let p = step_placed n source base cap net reach last log j k h res f.0 (All-head (λ j. 0 < j) j js pos) f.1 in rw p.1 at p.4
later_to n source base cap net reach last log t k (j ∷ js) h res f pos (suc l) b =
    later_to n source base cap net reach last log t j js h res f.2 (All-tail (λ j. 0 < j) j js pos) l (omega arith)

next_apart : (log : List Step) (j : ℕ) (js : List ℕ) → AreApart log j js → (l : ℕ) → l < length js → (step_at log (get_or js l 0)).arc.to ≡ (step_at log j).arc.to → ⊥
next_apart log j [] apart l b same = omega arith
next_apart log j (i ∷ is) apart l b same = apart.0 l 0 b same

pub path_once : (n source base cap : ℕ) (net : Network) (reach last : List ℕ) (log : List Step) (t k : ℕ) (js : List ℕ) →
    HasReached n source base cap net.arcs.items reach last log → IsNetwork net → Follows log k js t → AreApart log k js → All (λ j. 0 < j) js →
    (i l : ℕ) → i < l → l < length (steps_of net log js) →
    (place_at (steps_of net log js) i).0 ≡ (place_at (steps_of net log js) l).0 → ⊥
path_once n source base cap net reach last log t k [] h res f apart pos i l lt b same = omega arith
path_once n source base cap net reach last log t k (j ∷ js) h res f apart pos i zero lt b same = omega arith
path_once n source base cap net reach last log t k (j ∷ js) h res f apart pos zero (suc l) lt b same =
    let p = step_placed n source base cap net reach last log j k h res f.0 (All-head (λ j. 0 < j) j js pos) f.1 in
    let at = at_places net log js l (omega arith) in
    let q = get_or js l 0 in
    let to_q = later_to n source base cap net reach last log t j js h res f.2 (All-tail (λ j. 0 < j) j js pos) l at.0 in
    let ends = two_ends net.arcs.items (step_of net (step_at log j).place) (step_of net (step_at log q).place) (same ∙ ap (λ (x : ℕ × Bool). x.0) at.1) in
    elim ends [
      | inl e ↦ apart.0 (suc l) 0 (omega (arith, at.0)) (sym to_q ∙ e ∙ (rw p.1 at p.3))
      | inr e ↦ next_apart log j js apart.1 l at.0 (sym to_q ∙ e ∙ (rw p.1 at p.4))
    ]
path_once n source base cap net reach last log t k (j ∷ js) h res f apart pos (suc i) (suc l) lt b same =
    path_once n source base cap net reach last log t j js h res f.2 apart.1 (All-tail (λ j. 0 < j) j js pos) i l (omega arith) (omega arith) same

-- the node after the last step
pub path_end : (n source base cap : ℕ) (net : Network) (reach last : List ℕ) (log : List Step) (t k : ℕ) (js : List ℕ) →
    HasReached n source base cap net.arcs.items reach last log → IsNetwork net → Follows log k js t → All (λ j. 0 < j) js →
    node_after net.arcs.items (step_at log k).arc.to (steps_of net log js) (length (steps_of net log js)) ≡ t
path_end n source base cap net reach last log t k [] h res f pos = f
path_end n source base cap net reach last log t k (j ∷ []) h res f pos =
    let p = step_placed n source base cap net reach last log j k h res f.0 (All-head (λ j. 0 < j) j [] pos) f.1 in (rw p.1 at p.4) ∙ f.2
path_end n source base cap net reach last log t k (j ∷ (i ∷ js)) h res f pos =
    path_end n source base cap net reach last log t j (i ∷ js) h res f.2 (All-tail (λ j. 0 < j) j (i ∷ js) pos)
