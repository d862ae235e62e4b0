-- The chosen schedule exists: costs, and then sums of times, cannot fall for ever.
use Rattle.std.proofs.Common.{◌≡◌, ℕ, zero, suc, ◌≤◌, ◌<◌, min, List, length, map, get_or, sym, ◌∙◌, arith, ◌⊎◌, inl, inr}
use Rattle.std.specs.Prelude.{slice_index}
use Rattle.std.specs.List.{range_with_len}
use Rattle.std.proofs.lemmas.List.{get_or-map, length-map}
use Rattle.std.proofs.lemmas.List.FromFn.{get_or-map-range_with_len, length-map-range_with_len}
use Rattle.ix_sheet.specs.declared.problem.Node.{Node}
use Rattle.ix_sheet.specs.declared.problem.Problem.{Problem}
use Rattle.ix_sheet.specs.Schedules.{node_at, IsValidProblem, IsLegal, HasSchedule, IsCheapest, IsChosen, cost, sum_below}
use Rattle.ix_sheet.proofs.Minima.{least_minimum}
use Rattle.ix_sheet.proofs.Sums.{below-same}
use Rattle.schedule_laws.proofs.Boxes.{InBox, in_box, search_box}
use Rattle.schedule_laws.proofs.Deciding.{Decided, le_or, decide_le, decide_both}
use Rattle.schedule_laws.proofs.Legal.{AreSame, decide_legal, legal_same, cost_same}

-- the last times of windows
abbrev box_of : Problem → List ℕ
box_of p = map (λ (node : Node). node.late) p.ops

-- the times of the operations as a list
abbrev listed : Problem → (ℕ → ℕ) → List ℕ
listed p t = map t (range_with_len 0 (length p.ops))

listed_same : (p : Problem) (t : ℕ → ℕ) → AreSame p t (slice_index (listed p t))
listed_same p t k b = sym (get_or-map-range_with_len t 0 (length p.ops) k k 0 b (omega arith))

listed_inside : (p : Problem) (t : ℕ → ℕ) → IsLegal p t → InBox (box_of p) (listed p t)
listed_inside p t legal = in_box (box_of p) (listed p t) (length-map-range_with_len t 0 (length p.ops) ∙ sym (length-map p.ops (λ (node : Node). node.late)))
    (λ k b.
    let k_in : k < length p.ops = omega (arith, length-map p.ops (λ (node : Node). node.late)) in
    let late : get_or (box_of p) k 0 ≡ (node_at p k).late = get_or-map (λ (node : Node). node.late) p.ops k (record { delay = 0; latency = 0; weight = 0; early = 0; late = 0 }) 0 k_in in
    let same = listed_same p t k k_in in
    let window = legal.windows k k_in in
    omega arith)

-- legal, and cheaper than c
abbrev IsBelow : Problem → ℕ → List ℕ → Type 0
IsBelow p c xs = IsLegal p (slice_index xs) × (suc (cost p (slice_index xs)) ≤ c)

-- where none is below, the times are cheapest
cheapest_here : (p : Problem) (t : ℕ → ℕ) → IsValidProblem p → IsLegal p t → ((xs : List ℕ) → InBox (box_of p) xs → IsBelow p (cost p t) xs → ⊥) → IsCheapest p t
cheapest_here p t valid legal none = record {
  legal = legal;
  cheapest = λ u legal_u.
      elim (le_or (cost p t) (cost p u)) [
        | inl le ↦ le
        | inr less ↦
            (let same = listed_same p u in
            let e = cost_same p u (slice_index (listed p u)) valid same in
            absurd (none (listed p u) (listed_inside p u legal_u) (legal_same p u (slice_index (listed p u)) valid same legal_u, omega arith)))
      ];
}

decide_below_cost : (p : Problem) → IsValidProblem p → (c : ℕ) (xs : List ℕ) → Decided (IsBelow p c xs)
decide_below_cost p valid c xs = decide_both (decide_legal p (slice_index xs) valid) (decide_le (suc (cost p (slice_index xs))) c)

cheapest_exists : (p : Problem) → IsValidProblem p → (m : ℕ) (t : ℕ → ℕ) → IsLegal p t → cost p t ≤ m → (u : ℕ → ℕ) × IsCheapest p u
cheapest_exists p valid zero t legal le = (t, record { legal = legal; cheapest = λ u legal_u. omega arith })
cheapest_exists p valid (suc m) t legal le =
    elim (search_box (box_of p) (IsBelow p (cost p t)) (decide_below_cost p valid (cost p t))) [
      | inl found ↦ cheapest_exists p valid m (slice_index found.0) found.1.0 (let less = found.1.1 in omega arith)
      | inr none ↦ (t, cheapest_here p t valid legal none)
    ]

below_or_last : (k n : ℕ) → k < suc n → (k < n) ⊎ (k ≡ n)
below_or_last k n h = grind arith

part_low : (f : ℕ → ℕ) (n k : ℕ) → k < n → f k ≤ sum_below f n
part_low f zero k b = absurd (omega arith)
part_low f (suc n) k b =
    elim (below_or_last k n b) [
      | inl low ↦ (let e = part_low f n k low in omega arith)
      | inr e ↦ rw e (omega arith)
    ]

sum_low : (f g : ℕ → ℕ) (n : ℕ) → ((k : ℕ) → k < n → f k ≤ g k) → sum_below f n ≤ sum_below g n
sum_low f g zero h = omega arith
sum_low f g (suc n) h = (let rest = sum_low f g n (λ k b. h k (omega arith)) in let last = h n (omega arith) in omega arith)

sum_less : (f g : ℕ → ℕ) (n j : ℕ) → ((k : ℕ) → k < n → f k ≤ g k) → j < n → f j < g j → sum_below f n < sum_below g n
sum_less f g zero j h b less = absurd (omega arith)
sum_less f g (suc n) j h b less =
    elim (below_or_last j n b) [
      | inl low ↦ (let rest = sum_less f g n j (λ k q. h k (omega arith)) low less in let last = h n (omega arith) in omega arith)
      | inr e ↦ (let rest = sum_low f g n (λ k q. h k (omega arith)) in let last : f n < g n = rw e at less in omega arith)
    ]

-- legal, at most the cost c, and a sum of times below s
abbrev IsLower : Problem → ℕ → ℕ → List ℕ → Type 0
IsLower p c s xs = IsLegal p (slice_index xs) × ((cost p (slice_index xs) ≤ c) × (suc (sum_below (slice_index xs) (length p.ops)) ≤ s))

decide_lower : (p : Problem) → IsValidProblem p → (c s : ℕ) (xs : List ℕ) → Decided (IsLower p c s xs)
decide_lower p valid c s xs =
    decide_both (decide_legal p (slice_index xs) valid) (decide_both (decide_le (cost p (slice_index xs)) c) (decide_le (suc (sum_below (slice_index xs) (length p.ops))) s))

-- where none has a lower sum, the cheapest times are pointwise the least
least_here : (p : Problem) (t : ℕ → ℕ) → IsValidProblem p → IsCheapest p t → ((xs : List ℕ) → InBox (box_of p) xs → IsLower p (cost p t) (sum_below t (length p.ops)) xs → ⊥) → IsChosen p t
least_here p t valid is none = record {
  cheapest = is;
  least = λ u is_u k b.
      elim (le_or (t k) (u k)) [
        | inl le ↦ le
        | inr less ↦
            (let n = length p.ops in
            let v : ℕ → ℕ = λ q. min (t q) (u q) in
            let lower = least_minimum p valid t u is is_u in
            let same = listed_same p v in
            let own = listed p v in
            let costs = cost_same p v (slice_index own) valid same in
            let sums = below-same v (slice_index own) n same in
            let falls = sum_less v t n k (λ q q_in. omega arith) b (omega arith) in
            let most = lower.cheapest t is.legal in
            absurd (none own (listed_inside p v lower.legal) (legal_same p v (slice_index own) valid same lower.legal, (omega arith, omega arith))))
      ];
}

least_exists : (p : Problem) → IsValidProblem p → (m : ℕ) (t : ℕ → ℕ) → IsCheapest p t → sum_below t (length p.ops) ≤ m → (u : ℕ → ℕ) × IsChosen p u
least_exists p valid zero t is le = (t, record { cheapest = is; least = λ u is_u k b. (let part = part_low t (length p.ops) k b in omega arith) })
least_exists p valid (suc m) t is le =
    elim (search_box (box_of p) (IsLower p (cost p t) (sum_below t (length p.ops))) (decide_lower p valid (cost p t) (sum_below t (length p.ops)))) [
      | inl found ↦
          (let xs = found.0 in
          let low = found.1.1.0 in
          let less = found.1.1.1 in
          let now : IsCheapest p (slice_index xs) = record { legal = found.1.0; cheapest = λ u legal_u. (let e = is.cheapest u legal_u in omega arith) } in
          least_exists p valid m (slice_index xs) now (omega arith))
      | inr none ↦ (t, least_here p t valid is none)
    ]

pub chosen_exists : (p : Problem) → IsValidProblem p → HasSchedule p → (t : ℕ → ℕ) × IsChosen p t
chosen_exists p valid some =
    let cheap = cheapest_exists p valid (cost p some.0) some.0 some.1 (omega arith) in
    least_exists p valid (sum_below cheap.0 (length p.ops)) cheap.0 cheap.1 (omega arith)
