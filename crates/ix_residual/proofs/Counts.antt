-- The balances of a problem, counted edge by edge, and how many edges there are.
use Rattle.std.proofs.Common.{◌≡◌, ℕ, zero, suc, ℤ, pos, neg_ℤ, ◌+ℤ◌, ◌-ℤ◌, ◌≢◌, ◌+◌, ◌*◌, ◌≤◌, ◌<◌, ◌==◌, cond, true, false, List, [], ◌∷◌, ◌++◌, length, map, get_or, set, take, refl, sym, ◌∙◌, ap, arith, ◌⊎◌, inl, inr, length-set, FitsSigned, w64, to_z, of_z}
use Rattle.std.specs.Prelude.{All, AllPairs, sum_by}
use Rattle.std.specs.List.{range_with_len}
use Rattle.std.proofs.lemmas.Int.{ints}
use Rattle.std.proofs.lemmas.Bool.Decides.{nat_tests, Decides-eqb}
use Rattle.std.proofs.lemmas.List.{get_or-set_same, get_or-set_other, get_or-map, length-map, take_all, ext_get_or, get_or_append_left, get_or_push, length_push}
use Rattle.std.proofs.lemmas.List.Elements.{All-contains, All-head, All-map, All-tail}
use Rattle.std.proofs.lemmas.List.FromFn.{get_or-map-range_with_len, length-map-range_with_len}
use Rattle.std.proofs.lemmas.List.Sums.{sum_by_more}
use Rattle.std.proofs.lemmas.Map.Made.{IsDistinct-from_AllPairs}
use Rattle.std.proofs.lemmas.Map.Steps.{length-le_from_distinct_below}
use Rattle.std.proofs.lemmas.Map.Views.{Contains-from_any}
use Rattle.ix_sheet.specs.declared.problem.Node.{Node}
use Rattle.ix_sheet.specs.declared.problem.Problem.{Problem}
use Rattle.ix_sheet.specs.Schedules.{node_at, weight_of, IsWeighed, IsValidProblem}
use Rattle.ix_sheet.specs.Bounds.{weight_in, weight_out}
use Rattle.ix_residual.specs.Balances.{balance, balances}
use Rattle.ix_residual.specs.Counts.{need_to, spare_to, IsCountedTo}

-- a number for each edge
abbrev code : ℕ × ℕ → ℕ
code e = e.0 * 65536 + e.1

same_pair : (a b c d : ℕ) → a ≡ c → b ≡ d → ◌≡◌ {A = ℕ × ℕ} (a, b) (c, d)
same_pair a b c d e f = rw (e, f) refl

codes_apart : (p : Problem) → IsValidProblem p → AllPairs (λ x y. x ≢ y) (map code p.edges)
codes_apart p valid i j d lt b same =
    let in_edges : j < length p.edges = omega (arith, length-map p.edges code) in
    let e = get_or p.edges i (0, 0) in
    let f = get_or p.edges j (0, 0) in
    let first : get_or (map code p.edges) i d ≡ code e = get_or-map code p.edges i (0, 0) d (omega arith) in
    let second : get_or (map code p.edges) j d ≡ code f = get_or-map code p.edges j (0, 0) d in_edges in
    let e_in = valid.forward i (0, 0) (omega arith) in
    let f_in = valid.forward j (0, 0) in_edges in
    let few = valid.few in
    valid.once i j (0, 0) lt in_edges (same_pair e.0 e.1 f.0 f.1 (omega arith) (omega arith))

code_low : (p : Problem) → IsValidProblem p → All (λ x. x < 4294967296) (map code p.edges)
code_low p valid = All-map (λ x. x < 4294967296) code p.edges
    (λ i d b. let e = valid.forward i d b in let few = valid.few in omega arith)

-- a valid problem has at most 2 ^ 32 edges
pub few_edges : (p : Problem) → IsValidProblem p → length p.edges ≤ 4294967296
few_edges p valid =
    let codes = map code p.edges in
    let apart = IsDistinct-from_AllPairs Decides-eqb codes (codes_apart p valid) in
    let le : length codes ≤ 4294967296 = length-le_from_distinct_below codes 4294967296 apart
    (λ q found. All-contains (λ x. x < 4294967296) codes q (code_low p valid) (Contains-from_any (λ x y e. (Decides-eqb x y).0 e) q codes found)) in
    omega (arith, length-map p.edges code)

same_or_not : (v w : ℕ) → (v ≡ w) ⊎ (v ≢ w)
same_or_not v w = grind arith

same_test : (w : ℕ) → (w == w) ≡ true
same_test w = grind (arith, nat_tests)

other_test : (w v : ℕ) → v ≢ w → (w == v) ≡ false
other_test w v ne = grind (arith, nat_tests)

-- what is added to, or taken off, the number at w, told at any v
pub added : (xs : List ℤ) (w v x : ℕ) → w < length xs → get_or (set xs w (get_or xs w (pos 0) +ℤ pos x)) v (pos 0) ≡ get_or xs v (pos 0) +ℤ pos (cond (w == v) x 0)
added xs w v x b =
    elim (same_or_not v w) [
      | inl e ↦ rw (e, get_or-set_same xs w (get_or xs w (pos 0) +ℤ pos x) (pos 0) b, same_test w) refl
      | inr ne ↦ rw (get_or-set_other xs w v (get_or xs w (pos 0) +ℤ pos x) (pos 0) ne, other_test w v ne) (omega (arith, ints))
    ]

pub taken_off : (xs : List ℤ) (w v x : ℕ) → w < length xs → get_or (set xs w (get_or xs w (pos 0) -ℤ pos x)) v (pos 0) ≡ get_or xs v (pos 0) -ℤ pos (cond (w == v) x 0)
taken_off xs w v x b =
    elim (same_or_not v w) [
      | inl e ↦ rw (e, get_or-set_same xs w (get_or xs w (pos 0) -ℤ pos x) (pos 0) b, same_test w) refl
      | inr ne ↦ rw (get_or-set_other xs w v (get_or xs w (pos 0) -ℤ pos x) (pos 0) ne, other_test w v ne) (omega (arith, ints))
    ]

need_more : (p : Problem) (i v : ℕ) → i < length p.edges →
    need_to p (i + 1) v ≡ need_to p i v + cond ((get_or p.edges i (0, 0)).1 == v) (weight_of (node_at p (get_or p.edges i (0, 0)).0)) 0
need_more p i v b = sum_by_more (λ e. cond (e.1 == v) (weight_of (node_at p e.0)) 0) p.edges i (0, 0) b

spare_more : (p : Problem) (i v : ℕ) → i < length p.edges →
    spare_to p (i + 1) v ≡ spare_to p i v + cond ((get_or p.edges i (0, 0)).0 == v) (weight_of (node_at p (get_or p.edges i (0, 0)).0)) 0
spare_more p i v b = sum_by_more (λ e. cond (e.0 == v) (weight_of (node_at p e.0)) 0) p.edges i (0, 0) b

node_low : (ops : List Node) → All IsWeighed ops → (k : ℕ) → (get_or ops k (record { delay = 0; latency = 0; weight = 0; early = 0; late = 0 })).weight ≤ 128
node_low [] h k = omega arith
node_low (x ∷ xs) h zero = (All-head IsWeighed x xs h).1
node_low (x ∷ xs) h (suc k) = node_low xs (All-tail IsWeighed x xs h) k

-- no weight is above 128
pub weight_low : (p : Problem) → IsValidProblem p → (k : ℕ) → weight_of (node_at p k) ≤ 128
weight_low p valid k = node_low p.ops valid.weights k

part_low : (c : ℕ) (v x : ℕ) → x ≤ 128 → cond (c == v) x 0 ≤ 128
part_low c v x b =
    elim (same_or_not v c) [
      | inl e ↦ rw (e, same_test c) b
      | inr ne ↦ rw (other_test c v ne) (omega arith)
    ]

-- a balance that the first edges make is far from the ends of its type
pub low_balance : (p : Problem) (i v : ℕ) (left : List ℤ) → IsValidProblem p → IsCountedTo p i left → i ≤ length p.edges → v < length p.ops →
    (get_or left v (pos 0) ≡ pos (1 + need_to p i v) -ℤ pos (spare_to p i v)) × (need_to p i v ≤ 549755813888) × (spare_to p i v ≤ 549755813888)
low_balance p i v left valid h b v_in =
    let few = few_edges p valid in
    let n = h.need_low v in
    let s = h.spare_low v in
    (h.each v v_in, omega arith, omega arith)

-- one more edge is counted
pub counted_more : (p : Problem) (i : ℕ) (old new : List ℤ) (w : ℕ) → IsValidProblem p → IsCountedTo p i old → i < length p.edges →
    w ≡ weight_of (node_at p (get_or p.edges i (0, 0)).0) →
    new ≡ set (set old (get_or p.edges i (0, 0)).1 (get_or old (get_or p.edges i (0, 0)).1 (pos 0) +ℤ pos w)) (get_or p.edges i (0, 0)).0 (get_or old (get_or p.edges i (0, 0)).0 (pos 0) -ℤ pos w) →
    IsCountedTo p (i + 1) new
counted_more p i old new w valid h b ew en =
    let e = get_or p.edges i (0, 0) in
    let forward = valid.forward i (0, 0) b in
    let to : e.1 < length old = omega (arith, h.len) in
    let up = set old e.1 (get_or old e.1 (pos 0) +ℤ pos w) in
    let long : length up ≡ length old = length-set old e.1 (get_or old e.1 (pos 0) +ℤ pos w) in
    let from : e.0 < length up = omega (arith, h.len) in
    let apart : e.0 ≢ e.1 = omega arith in
    let read : get_or up e.0 (pos 0) ≡ get_or old e.0 (pos 0) = get_or-set_other old e.1 e.0 (get_or old e.1 (pos 0) +ℤ pos w) (pos 0) apart in
    let low = weight_low p valid e.0 in
    let at : (v : ℕ) → get_or new v (pos 0) ≡ (get_or old v (pos 0) +ℤ pos (cond (e.1 == v) w 0)) -ℤ pos (cond (e.0 == v) w 0)
    = λ v. rw (en, ← read, taken_off up e.0 v w from, added old e.1 v w to) refl in
    record {
      len = rw en (length-set up e.0 (get_or old e.0 (pos 0) -ℤ pos w) ∙ long ∙ h.len);
      each = λ v v_in. rw (at v, need_more p i v b, spare_more p i v b, h.each v v_in, ew) (omega (arith, ints));
      need_low = λ v. rw (need_more p i v b) (let x = h.need_low v in let y = part_low e.1 v (weight_of (node_at p e.0)) low in omega arith);
      spare_low = λ v. rw (spare_more p i v b) (let x = h.spare_low v in let y = part_low e.0 v (weight_of (node_at p e.0)) low in omega arith);
      root =
          (let few : e.1 < length p.ops = forward.1 in
          let first : e.1 ≢ length p.ops = omega arith in
          let second : e.0 ≢ length p.ops = omega arith in
          rw (at (length p.ops), other_test e.1 (length p.ops) (λ q. first (sym q)), other_test e.0 (length p.ops) (λ q. second (sym q)), h.root) (omega (arith, ints)));
    }

-- before the first edge
pub none_counted : (p : Problem) (ones left : List ℤ) (n : ℕ) → n ≡ length p.ops → length ones ≡ n → ((k : ℕ) → k < n → get_or ones k (pos 0) ≡ pos 1) →
    left ≡ ones ++ neg_ℤ (pos n) ∷ [] → IsCountedTo p 0 left
none_counted p ones left n en len each el = record {
  len = rw (el, length_push ones (neg_ℤ (pos n))) (omega arith);
  each = λ v v_in. rw el (get_or_append_left ones (neg_ℤ (pos n) ∷ []) (pos 0) v (omega arith) ∙ each v (omega arith));
  need_low = λ v. omega arith;
  spare_low = λ v. omega arith;
  root = rw (el, ← en) (get_or_push ones (neg_ℤ (pos n)) (pos 0) n len);
}

below_or_last : (k n : ℕ) → k < n + 1 → (k < n) ⊎ (k ≡ n)
below_or_last k n h = grind arith

-- all edges are counted
pub all_counted : (p : Problem) (m : ℕ) (left : List ℤ) → m ≡ length p.edges → IsCountedTo p m left → left ≡ balances p
all_counted p m left em h =
    let n = length p.ops in
    let each = map (balance p) (range_with_len 0 n) in
    let last = neg_ℤ (pos n) in
    let long : length each ≡ n = length-map-range_with_len (balance p) 0 n in
    let whole : take m p.edges ≡ p.edges = take_all m p.edges (omega arith) in
    ext_get_or (pos 0) left (balances p) (rw (length_push each last) (omega (arith, h.len)))
    (λ v b. elim (below_or_last v n (omega (arith, h.len))) [
      | inl low ↦
          (let i : need_to p m v ≡ weight_in p v = ap (λ es. sum_by (λ e. cond (e.1 == v) (weight_of (node_at p e.0)) 0) es) whole in
          let o : spare_to p m v ≡ weight_out p v = ap (λ es. sum_by (λ e. cond (e.0 == v) (weight_of (node_at p e.0)) 0) es) whole in
          let there : get_or (balances p) v (pos 0) ≡ balance p v = get_or_append_left each (last ∷ []) (pos 0) v (omega arith) ∙ get_or-map-range_with_len (balance p) 0 n v v (pos 0) low (omega arith) in
          rw (there, h.each v low, i, o) refl)
      | inr top ↦ rw top (h.root ∙ sym (get_or_push each last (pos 0) n long))
    ])

-- sums and differences of balances and weights, as code makes them
pub sums_fit : (x : ℤ) (a b w : ℕ) → x ≡ pos (1 + a) -ℤ pos b → a ≤ 549755813888 → b ≤ 549755813888 → w ≤ 128 →
    FitsSigned w64 (to_z w64 (of_z w64 x) +ℤ to_z w64 w) × (to_z w64 (of_z w64 (to_z w64 (of_z w64 x) +ℤ to_z w64 w)) ≡ x +ℤ pos w)
    × FitsSigned w64 (to_z w64 (of_z w64 x) -ℤ to_z w64 w) × (to_z w64 (of_z w64 (to_z w64 (of_z w64 x) -ℤ to_z w64 w)) ≡ x -ℤ pos w)
sums_fit x a b w e la lb lw = rw e (omega (arith, ints), omega (arith, ints), omega (arith, ints), omega (arith, ints))

pub counted_fit : (p : Problem) (i v w : ℕ) (left : List ℤ) (x : ℤ) → IsValidProblem p → IsCountedTo p i left → i ≤ length p.edges → v < length p.ops → w ≤ 128 → x ≡ get_or left v (pos 0) →
    FitsSigned w64 (to_z w64 (of_z w64 x) +ℤ to_z w64 w) × (to_z w64 (of_z w64 (to_z w64 (of_z w64 x) +ℤ to_z w64 w)) ≡ x +ℤ pos w)
    × FitsSigned w64 (to_z w64 (of_z w64 x) -ℤ to_z w64 w) × (to_z w64 (of_z w64 (to_z w64 (of_z w64 x) -ℤ to_z w64 w)) ≡ x -ℤ pos w)
counted_fit p i v w left x valid h b v_in lw ex =
    let low = low_balance p i v left valid h b v_in in
    sums_fit x (need_to p i v) (spare_to p i v) w (ex ∙ low.0) low.1 low.2 lw

-- the number at the start of an edge is not the one that was written at its end
pub read_other : (p : Problem) (i : ℕ) (left : List ℤ) (y : ℤ) → IsValidProblem p → i < length p.edges →
    get_or (set left (get_or p.edges i (0, 0)).1 y) (get_or p.edges i (0, 0)).0 (pos 0) ≡ get_or left (get_or p.edges i (0, 0)).0 (pos 0)
read_other p i left y valid b =
    let forward = valid.forward i (0, 0) b in
    get_or-set_other left (get_or p.edges i (0, 0)).1 (get_or p.edges i (0, 0)).0 y (pos 0) (omega arith)
