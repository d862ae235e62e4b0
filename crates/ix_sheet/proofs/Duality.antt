-- Dual flows.
use Rattle.std.proofs.Common.{◌≡◌, ℕ, zero, suc, ◌+◌, ◌*◌, ◌≤◌, ◌<◌, length, get_or, ap, arith}
use Rattle.std.specs.Prelude.{All, sum_by}
use Rattle.ix_sheet.specs.declared.problem.Problem.{Problem}
use Rattle.ix_sheet.specs.Schedules.{IsValidProblem, IsLegal, IsAfter, IsCheapest, IsChosen, sum_below, cost}
use Rattle.ix_sheet.specs.Bounds.{arc_of, rooted, Meets, MeetsBound, MeetsTurned, IsTightBound, Flow, inflow, outflow, weight_in, weight_out, IsDualFlow, HasValue}
use Rattle.ix_sheet.specs.Laws.{AreLeastTimes, IsChosenAtValue}
use Rattle.ix_sheet.proofs.Sums.{below-add, below-same, weigh, sum_by-le_each, sum_by-add, sum_by-same_each, equal_each}
use Rattle.ix_sheet.proofs.Rooted.{rooted_below, rooted_root, cost-rooted}
use Rattle.ix_sheet.proofs.BoundLemmas.{ends_inside, met_from_legal, legal_from_met}
use Rattle.ix_sheet.proofs.Lifetimes.{weight_at, from_weight, to_weight, latency_weight, lifetimes}

abbrev amount_from : Problem → (ℕ → ℕ) → Flow → ℕ
amount_from p s flow = sum_by (λ c. s (arc_of p c.0).from * c.1) flow

abbrev amount_to : Problem → (ℕ → ℕ) → Flow → ℕ
amount_to p s flow = sum_by (λ c. s (arc_of p c.0).to * c.1) flow

times_balance : (x a b c d : ℕ) → a + b ≡ c + (1 + d) → x * a + x * b ≡ x * c + (x + x * d)
times_balance x a b c d e = let m : x * (a + b) ≡ x * (c + (1 + d)) = ap (λ y. x * y) e in omega arith

-- the balances weighed by times with 0 at the root
balance_weighed : (p : Problem) → IsValidProblem p → (flow : Flow) → IsDualFlow p flow → (s : ℕ → ℕ) → s (length p.ops) ≡ 0 →
    amount_to p s flow + sum_by (from_weight p s) p.edges ≡ amount_from p s flow + (sum_below s (length p.ops) + sum_by (to_weight p s) p.edges)
balance_weighed p valid flow f s root =
    let n = length p.ops in
    let into = weigh (λ c. (arc_of p c.0).to) (λ c. c.1) s n root flow (λ k d h. (ends_inside p valid (get_or flow k d).0 (f.bounds k d h)).1) in
    let out = weigh (λ c. (arc_of p c.0).from) (λ c. c.1) s n root flow (λ k d h. (ends_inside p valid (get_or flow k d).0 (f.bounds k d h)).0) in
    let edge_in = weigh (λ e. e.1) (weight_at p) s n root p.edges (λ k d h. omega (arith, valid.forward k d h)) in
    let edge_out = weigh (λ e. e.0) (weight_at p) s n root p.edges (λ k d h. omega (arith, valid.forward k d h)) in
    let fi : ℕ → ℕ = λ v. s v * inflow p flow v in
    let fo : ℕ → ℕ = λ v. s v * outflow p flow v in
    let ei : ℕ → ℕ = λ v. s v * weight_in p v in
    let eo : ℕ → ℕ = λ v. s v * weight_out p v in
    let left = below-add fi eo n in
    let right1 = below-add s ei n in
    let right2 = below-add fo (λ v. s v + ei v) n in
    let same = below-same (λ v. fi v + eo v) (λ v. fo v + (s v + ei v)) n
    (λ v b. times_balance (s v) (inflow p flow v) (weight_out p v) (outflow p flow v) (weight_in p v) (f.balanced v b))
    in
    omega arith

times_le : (a x y : ℕ) → x ≤ y → x * a ≤ y * a
times_le a x y h = grind arith

arc_le : (a f u t d : ℕ) → f + u ≤ t + d → f * a + a * u ≤ t * a + a * d
arc_le a f u t d h = let m = times_le a (f + u) (t + d) h in omega arith

arc_same : (a f u t d : ℕ) → f + u ≡ t + d → f * a + a * u ≡ t * a + a * d
arc_same a f u t d h = let m : (f + u) * a ≡ (t + d) * a = ap (λ y. y * a) h in omega arith

abbrev carried_from : Problem → (ℕ → ℕ) → Flow → ℕ
carried_from p s flow = sum_by (λ c. s (arc_of p c.0).from * c.1 + c.1 * (arc_of p c.0).up) flow

abbrev carried_to : Problem → (ℕ → ℕ) → Flow → ℕ
carried_to p s flow = sum_by (λ c. s (arc_of p c.0).to * c.1 + c.1 * (arc_of p c.0).down) flow

each_le : (p : Problem) (s : ℕ → ℕ) (flow : Flow) → All (λ c. Meets s (arc_of p c.0)) flow →
    All (λ c. s (arc_of p c.0).from * c.1 + c.1 * (arc_of p c.0).up ≤ s (arc_of p c.0).to * c.1 + c.1 * (arc_of p c.0).down) flow
each_le p s flow met k d h =
    let c = get_or flow k d in
    let a = arc_of p c.0 in
    arc_le c.1 (s a.from) a.up (s a.to) a.down (met k d h)

rooted_after : (p : Problem) (t : ℕ → ℕ) → IsValidProblem p → IsLegal p t → All (IsAfter p (rooted p t)) p.edges
rooted_after p t valid legal k d h =
    let e = get_or p.edges k d in
    let forward = valid.forward k d h in
    let from = rooted_below p t e.0 (omega arith) in
    let to = rooted_below p t e.1 (omega arith) in
    let after = legal.edges k d h in
    omega arith

flow_met : (p : Problem) (t : ℕ → ℕ) → IsValidProblem p → IsLegal p t → (flow : Flow) → IsDualFlow p flow → All (λ c. MeetsBound p t c.0) flow
flow_met p t valid legal flow f k d h = met_from_legal p t valid legal (get_or flow k d).0 (f.bounds k d h)

-- what the flow carries to its ends is what it carries from its starts, the cost and the latencies
flow_identity : (p : Problem) → IsValidProblem p → (flow : Flow) → IsDualFlow p flow → (t : ℕ → ℕ) → IsLegal p t →
    amount_to p (rooted p t) flow ≡ amount_from p (rooted p t) flow + cost p t + sum_by (latency_weight p) p.edges
flow_identity p valid flow f t legal =
    let s = rooted p t in
    let balance = balance_weighed p valid flow f s (rooted_root p t) in
    let lives = lifetimes p s p.edges (rooted_after p t valid legal) in
    let same = cost-rooted p t valid in
    omega arith

split_from : (p : Problem) (s : ℕ → ℕ) (flow : Flow) → carried_from p s flow ≡ amount_from p s flow + sum_by (λ c. c.1 * (arc_of p c.0).up) flow
split_from p s flow = sum_by-add (λ c. s (arc_of p c.0).from * c.1) (λ c. c.1 * (arc_of p c.0).up) flow

split_to : (p : Problem) (s : ℕ → ℕ) (flow : Flow) → carried_to p s flow ≡ amount_to p s flow + sum_by (λ c. c.1 * (arc_of p c.0).down) flow
split_to p s flow = sum_by-add (λ c. s (arc_of p c.0).to * c.1) (λ c. c.1 * (arc_of p c.0).down) flow

-- what a flow's value leaves of a legal schedule's cost
carried_cost : (p : Problem) → IsValidProblem p → (flow : Flow) → IsDualFlow p flow → (value : ℕ) → HasValue p flow value → (t : ℕ → ℕ) → IsLegal p t →
    carried_to p (rooted p t) flow + value ≡ carried_from p (rooted p t) flow + cost p t
carried_cost p valid flow f value valued t legal =
    let from = split_from p (rooted p t) flow in
    let to = split_to p (rooted p t) flow in
    let identity = flow_identity p valid flow f t legal in
    omega arith

-- no legal schedule costs less than the flow's value
value_le_cost : (p : Problem) → IsValidProblem p → (flow : Flow) → IsDualFlow p flow → (value : ℕ) → HasValue p flow value → (t : ℕ → ℕ) → IsLegal p t →
    value ≤ cost p t
value_le_cost p valid flow f value valued t legal =
    let s = rooted p t in
    let le : carried_from p s flow ≤ carried_to p s flow =
    sum_by-le_each (λ c. s (arc_of p c.0).from * c.1 + c.1 * (arc_of p c.0).up) (λ c. s (arc_of p c.0).to * c.1 + c.1 * (arc_of p c.0).down) flow
    (each_le p s flow (flow_met p t valid legal flow f))
    in
    let carried = carried_cost p valid flow f value valued t legal in
    omega arith

pub cheapest_by_flow : (p : Problem) → IsValidProblem p → (flow : Flow) → IsDualFlow p flow → (t : ℕ → ℕ) → IsLegal p t →
    HasValue p flow (cost p t) → IsCheapest p t
cheapest_by_flow p valid flow f t legal value = record {
  legal = legal;
  cheapest = λ u l. value_le_cost p valid flow f (cost p t) value u l;
}

mul_cancel : (a x y : ℕ) → x * suc a ≡ y * suc a → x ≡ y
mul_cancel a x y e = grind arith

no_slack : (a f u t d : ℕ) → 0 < a → f * a + a * u ≡ t * a + a * d → f + u ≡ t + d
no_slack zero f u t d pos e = omega arith
no_slack (suc a) f u t d pos e = mul_cancel a (f + u) (t + d) (omega arith)

-- a schedule that costs the flow's value meets each bound that has an amount with equality
pub tight_at_value : (p : Problem) → IsValidProblem p → (flow : Flow) → IsDualFlow p flow → (t : ℕ → ℕ) → IsLegal p t →
    HasValue p flow (cost p t) → All (λ c. IsTightBound p t c.0) flow
tight_at_value p valid flow f t legal value =
    let s = rooted p t in
    let each = each_le p s flow (flow_met p t valid legal flow f) in
    let carried = carried_cost p valid flow f (cost p t) value t legal in
    let back : carried_to p s flow ≤ carried_from p s flow = omega arith in
    let same = equal_each (λ c. s (arc_of p c.0).from * c.1 + c.1 * (arc_of p c.0).up) (λ c. s (arc_of p c.0).to * c.1 + c.1 * (arc_of p c.0).down) flow each back in
    λ k d h.
    let c = get_or flow k d in
    let a = arc_of p c.0 in
    no_slack c.1 (s a.from) a.up (s a.to) a.down (f.positive k d h) (same k d h)

-- where each bound that has an amount is met with equality, the flow's value is the cost
value_when_tight : (p : Problem) → IsValidProblem p → (flow : Flow) → IsDualFlow p flow → (t : ℕ → ℕ) → IsLegal p t →
    All (λ c. IsTightBound p t c.0) flow → HasValue p flow (cost p t)
value_when_tight p valid flow f t legal tight =
    let s = rooted p t in
    let from = split_from p s flow in
    let to = split_to p s flow in
    let identity = flow_identity p valid flow f t legal in
    let same : carried_from p s flow ≡ carried_to p s flow =
    sum_by-same_each (λ c. s (arc_of p c.0).from * c.1 + c.1 * (arc_of p c.0).up) (λ c. s (arc_of p c.0).to * c.1 + c.1 * (arc_of p c.0).down) flow
    (λ k d h.
    let c = get_or flow k d in
    let a = arc_of p c.0 in
    arc_same c.1 (s a.from) a.up (s a.to) a.down (tight k d h))
    in
    omega arith

both_ways : (p : Problem) (t : ℕ → ℕ) (flow : Flow) → All (λ c. MeetsBound p t c.0) flow → All (λ c. MeetsTurned p t c.0) flow → All (λ c. IsTightBound p t c.0) flow
both_ways p t flow met back k d h =
    let there = met k d h in
    let here = back k d h in
    omega arith

turned_from_tight : (p : Problem) (t : ℕ → ℕ) (flow : Flow) → All (λ c. IsTightBound p t c.0) flow → All (λ c. MeetsTurned p t c.0) flow
turned_from_tight p t flow tight k d h = let e = tight k d h in omega arith

-- a schedule of least cost meets the bounds that have an amount turned round
turned_met : (p : Problem) → IsValidProblem p → (flow : Flow) → IsDualFlow p flow → (t : ℕ → ℕ) → IsLegal p t → HasValue p flow (cost p t) →
    (u : ℕ → ℕ) → IsCheapest p u → All (λ c. MeetsTurned p u c.0) flow
turned_met p valid flow f t legal value u best =
    let le = best.cheapest t legal in
    let ge = (cheapest_by_flow p valid flow f t legal value).cheapest u best.legal in
    let same : cost p t ≡ cost p u = omega arith in
    turned_from_tight p u flow (tight_at_value p valid flow f u best.legal (rw same at value))

-- the least times that meet the bounds, and turned round those that have an amount, are the chosen schedule
pub chosen_by_flow : (p : Problem) → IsValidProblem p → (flow : Flow) → IsDualFlow p flow → (t : ℕ → ℕ) → AreLeastTimes p flow t → IsChosenAtValue p flow t
chosen_by_flow p valid flow f t times =
    let legal = legal_from_met p t valid times.met in
    let value = value_when_tight p valid flow f t legal (both_ways p t flow (flow_met p t valid legal flow f) times.back) in
    record {
      chosen = record {
        cheapest = cheapest_by_flow p valid flow f t legal value;
        least = λ u best. times.least u (met_from_legal p u valid best.legal) (turned_met p valid flow f t legal value u best);
      };
      value = value;
    }

pub tight_if_cheapest : (p : Problem) → IsValidProblem p → (flow : Flow) → IsDualFlow p flow → (t : ℕ → ℕ) → IsCheapest p t →
    HasValue p flow (cost p t) → All (λ c. IsTightBound p t c.0) flow
tight_if_cheapest p valid flow f t best value = tight_at_value p valid flow f t best.legal value

pub one_chosen : (p : Problem) (t u : ℕ → ℕ) → IsChosen p t → IsChosen p u → (k : ℕ) → k < length p.ops → t k ≡ u k
one_chosen p t u a b k h = omega (arith, a.least u b.cheapest k h, b.least t a.cheapest k h)
