-- Networks as inequalities are turned round, and the path of a longest walk over them.
use Rattle.std.proofs.Common.{◌≡◌, ℕ, ◌+◌, ◌-◌, ◌≤◌, ◌<◌, List, length, get_or, arith}
use Rattle.std.specs.Prelude.{All}
use Rattle.std.proofs.lemmas.List.Elements.{All-weaker}
use Rattle.ix_sheet.specs.declared.problem.Arc.{Arc}
use Rattle.ix_sheet.specs.Bounds.{Meets, IsTight}
use Rattle.ix_residual.specs.Residuals.{place_at}
use Rattle.ix_solve.specs.declared.network.Network.{Network}
use Rattle.ix_solve.specs.declared.search.Step.{Step}
use Rattle.ix_solve.specs.declared.search.TheConstants.{LIMIT}
use Rattle.ix_solve.specs.Search.{no_arc, arc_at, step_at, HasReached, IsFramed, IsFeasible, Follows, AreApart}
use Rattle.ix_solve.specs.Networks.{IsNetwork, IsLongestPath, step_of}
use Rattle.ix_solve.proofs.Starts.{above_root}
use Rattle.ix_solve.proofs.Paths.{at_places, path_joined, path_once, path_end, placed, steps_of, IsPlaced}

from_source : (reach : List ℕ) (n : ℕ) (a : Arc) → get_or reach n 0 ≤ get_or reach a.from 0 → get_or reach n 0 ≤ get_or reach a.to 0 → Meets (λ v. get_or reach v 0) a →
    Meets (λ v. get_or reach v 0 - get_or reach n 0) a
from_source reach n a f t m = omega arith

-- each step of the path stands for the arc of the trail's step
step_is : (n source base cap : ℕ) (net : Network) (reach last : List ℕ) (log : List Step) (js : List ℕ) → HasReached n source base cap net.arcs.items reach last log → IsNetwork net →
    All (λ j. (0 < j) × (j < length log)) js → (k : ℕ) → k < length (steps_of net log js) → IsPlaced net (place_at (steps_of net log js) k) (step_at log (get_or js k 0)).arc
step_is n source base cap net reach last log js h is pos k b =
    let at = at_places net log js k b in
    let p = pos k 0 at.0 in
    let s = h.steps (get_or js k 0) p.0 p.1 in
    let e : IsPlaced net (step_of net (step_at log (get_or js k 0)).place) (step_at log (get_or js k 0)).arc = rw s.placed.1 at (placed net (step_at log (get_or js k 0)).place is s.placed.0) in
    rw at.1 e

met_above : (x t : ℕ → ℕ) (base : ℕ) (a : Arc) → t a.from + base ≡ x a.from → t a.to + base ≡ x a.to → Meets x a → Meets t a
met_above x t base a f e m = omega arith

tight_above : (x t : ℕ → ℕ) (base : ℕ) (a : Arc) → t a.from + base ≡ x a.from → t a.to + base ≡ x a.to → IsTight x a → IsTight t a
tight_above x t base a f e m = omega arith

-- what a settled search finds between its source and a node, and times above the root's
pub longest : (source target base cap : ℕ) (net : Network) (reach last : List ℕ) (log : List Step) (js : List ℕ) (t : ℕ → ℕ) →
    HasReached net.root source base cap net.arcs.items reach last log → IsNetwork net → All (Meets (λ v. get_or reach v 0)) net.arcs.items →
    Follows log 0 js target → AreApart log 0 js → All (λ j. (0 < j) × (j < length log)) js → All (λ j. IsTight (λ v. get_or reach v 0) (step_at log j).arc) js →
    ((v : ℕ) → v ≤ net.root → t v + get_or reach net.root 0 ≡ get_or reach v 0) → IsLongestPath net t source target (steps_of net log js)
longest source target base cap net reach last log js t h is met f apart pos tight above_all =
    let n = net.root in
    let x : ℕ → ℕ = λ v. get_or reach v 0 in
    let above : All (λ j. 0 < j) js = All-weaker (λ j. (0 < j) × (j < length log)) (λ j. 0 < j) (λ j p. p.0) js pos in
    let joined = path_joined n source base cap net reach last log target 0 js h is f above in
    let once = path_once n source base cap net reach last log target 0 js h is f apart above in
    let end = path_end n source base cap net reach last log target 0 js h is f above in
    let low : (v : ℕ) → v ≤ n → (get_or reach n 0 ≤ get_or reach v 0) × (get_or reach v 0 ≤ get_or reach n 0 + LIMIT) = above_root n net.arcs.items x is.framed met in
    record {
      path = record {
        within = λ k b. (joined k b).0;
        joined = rw (← h.first_to) (λ k b. (joined k b).1);
        ends = rw (← h.first_to) end;
        once = once;
        tight = λ k b.
            (let e = step_is net.root source base cap net reach last log js h is pos k b in
            let at = at_places net log js k b in
            let a = arc_at net.arcs.items (place_at (steps_of net log js) k).0 in
            let i = is.framed.inside (place_at (steps_of net log js) k).0 no_arc (omega (arith, e.within, is.len)) in
            tight_above x t (x n) a (above_all a.from i.0) (above_all a.to i.1) (e.tight x (tight k 0 at.0)));
      };
      carried = λ k b. (step_is net.root source base cap net reach last log js h is pos k b).carried;
      low = λ v b. (let l = low v b in omega (arith, above_all v b));
      met = λ k d b. (let i = is.framed.inside k d b in met_above x t (x n) (get_or net.arcs.items k d) (above_all (get_or net.arcs.items k d).from i.0) (above_all (get_or net.arcs.items k d).to i.1) (met k d b));
    }

-- what a settled search from the root shows
pub feasible : (n : ℕ) (arcs : List Arc) (reach : List ℕ) → IsFramed n arcs → All (Meets (λ v. get_or reach v 0)) arcs → IsFeasible n arcs
feasible n arcs reach framed met =
    let low : (v : ℕ) → v ≤ n → (get_or reach n 0 ≤ get_or reach v 0) × (get_or reach v 0 ≤ get_or reach n 0 + LIMIT) = above_root n arcs (λ v. get_or reach v 0) framed met in
    record {
      times = λ v. get_or reach v 0 - get_or reach n 0;
      low = λ v b. (let l = low v b in omega arith);
      met = λ k d b. (let i = framed.inside k d b in from_source reach n (get_or arcs k d) (low (get_or arcs k d).from i.0).0 (low (get_or arcs k d).to i.1).0 (met k d b));
    }
