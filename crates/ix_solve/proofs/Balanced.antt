-- What balances need and have to spare, one by one and in sum.
use Rattle.std.proofs.Common.{◌≡◌, ℕ, ℤ, pos, negsuc, neg_ℤ, ◌+ℤ◌, ◌-ℤ◌, ◌<ℤ◌, ◌^◌, zero, suc, ◌≢◌, ◌+◌, ◌-◌, ◌≤◌, ◌<◌, ◌==◌, cond, true, false, List, [], ◌∷◌, length, map, get_or, set, length-set, refl, ◌∙◌, ap, arith, add-one, ◌⊎◌, inl, inr}
use Rattle.std.specs.Prelude.{All, sum_by}
use Rattle.std.specs.List.{range_with_len}
use Rattle.std.proofs.lemmas.Int.{ints}
use Rattle.std.proofs.lemmas.Bool.Decides.{nat_tests}
use Rattle.std.proofs.lemmas.List.{get_or-set_same, get_or-set_other, get_or_append_left, length_push}
use Rattle.std.proofs.lemmas.List.Elements.{All-head, All-tail}
use Rattle.std.proofs.lemmas.List.FromFn.{get_or-map-range_with_len, length-map-range_with_len, sum_by-map-range_with_len_more}
use Rattle.std.proofs.lemmas.List.Sums.{sum_by-set, sum_by-cons, sum_by_push, sum_by-le, get_or-le-sum_by}
use Rattle.ix_sheet.specs.declared.problem.Problem.{Problem}
use Rattle.ix_sheet.specs.Schedules.{IsValidProblem, node_at, weight_of, sum_below}
use Rattle.ix_sheet.specs.Bounds.{amount_at, weight_in, weight_out}
use Rattle.ix_sheet.proofs.Sums.{below-add, below-same, below-none}
use Rattle.ix_residual.specs.Residuals.{need_of, spare_of, settled}
use Rattle.ix_residual.specs.Balances.{balance, balances, sum_of_needs}
use Rattle.ix_residual.proofs.Counts.{few_edges, weight_low}

le_or : (x y : ℕ) → (x ≤ y) ⊎ (y < x)
le_or x y = grind arith

-- d less is needed
pub need_less : (x : ℤ) (d : ℕ) → d ≤ need_of x → (need_of (x -ℤ pos d) + d ≡ need_of x) × (spare_of (x -ℤ pos d) ≡ spare_of x)
need_less (pos n) d h =
    let e : pos n -ℤ pos d ≡ pos (n - d) = omega (arith, ints) in
    rw e (omega arith, refl)
need_less (negsuc n) d h =
    let e : negsuc n -ℤ pos d ≡ negsuc n = omega (arith, ints) in
    rw e (omega arith, refl)

-- d less is there to spare
pub spare_less : (x : ℤ) (d : ℕ) → d ≤ spare_of x → (spare_of (x +ℤ pos d) + d ≡ spare_of x) × (need_of (x +ℤ pos d) ≡ need_of x)
spare_less (pos n) d h = (omega arith, omega arith)
spare_less (negsuc n) d h =
    elim (le_or d n) [
      | inl low ↦ (let e : negsuc n +ℤ pos d ≡ negsuc (n - d) = omega (arith, ints) in rw e (omega arith, refl))
      | inr high ↦ (let e : negsuc n +ℤ pos d ≡ pos 0 = omega (arith, ints) in rw e (omega arith, refl))
    ]

-- no balance both needs and has to spare
pub one_way : (x : ℤ) → 0 < spare_of x → 0 < need_of x → ⊥
one_way (pos n) s n2 = omega arith
one_way (negsuc n) s n2 = omega arith

pub none_at_all : (x : ℤ) → need_of x ≡ 0 → spare_of x ≡ 0 → x ≡ pos 0
none_at_all (pos n) e f = ap pos e
none_at_all (negsuc n) e f = absurd (omega arith)

pub below_zero : (x : ℤ) → 0 < spare_of x → x <ℤ pos 0
below_zero (pos n) h = absurd (omega arith)
below_zero (negsuc n) h = omega (arith, ints)

pub above_zero : (x : ℤ) → 0 < need_of x → pos 0 <ℤ x
above_zero (pos n) h = omega (arith, ints)
above_zero (negsuc n) h = absurd (omega arith)

same_or_not : (v w : ℕ) → (v ≡ w) ⊎ (v ≢ w)
same_or_not v w = grind arith

same_test : (w : ℕ) → (w == w) ≡ true
same_test w = grind (arith, nat_tests)

other_test : (w v : ℕ) → v ≢ w → (w == v) ≡ false
other_test w v ne = grind (arith, nat_tests)

-- what is left at a node after d has moved from a to b
pub settled_at : (left : List ℤ) (a b d v : ℕ) → a < length left → b < length left → a ≢ b → d ≤ spare_of (get_or left a (pos 0)) → d ≤ need_of (get_or left b (pos 0)) →
    (need_of (get_or (settled left a b d) v (pos 0)) + cond (b == v) d 0 ≡ need_of (get_or left v (pos 0)))
    × (spare_of (get_or (settled left a b d) v (pos 0)) + cond (a == v) d 0 ≡ spare_of (get_or left v (pos 0)))
settled_at left a b d v a_in b_in ne low_a low_b =
    let x = get_or left a (pos 0) in
    let y = get_or left b (pos 0) in
    let mid = set left a (x +ℤ pos d) in
    let long : length mid ≡ length left = length-set left a (x +ℤ pos d) in
    let n = need_less y d low_b in
    let s = spare_less x d low_a in
    elim (same_or_not v b) [
      | inl at_b ↦
          (let not_a : v ≢ a = omega arith in
          let e : get_or (set mid b (y -ℤ pos d)) b (pos 0) ≡ y -ℤ pos d = get_or-set_same mid b (y -ℤ pos d) (pos 0) (omega arith) in
          let not_b : b ≢ a = omega arith in
          rw (at_b, e, same_test b, other_test a b not_b) (n.0, omega (arith, n.1)))
      | inr not_b ↦
          rw (get_or-set_other mid b v (y -ℤ pos d) (pos 0) not_b, other_test b v not_b)
          (elim (same_or_not v a) [
            | inl at_a ↦ rw (at_a, get_or-set_same left a (x +ℤ pos d) (pos 0) a_in, same_test a) (omega (arith, s.1), s.0)
            | inr not_a ↦ rw (get_or-set_other left a v (x +ℤ pos d) (pos 0) not_a, other_test a v not_a) (omega arith, omega arith)
          ])
    ]

pub settled_sums : (left : List ℤ) (a b d : ℕ) → a < length left → b < length left → a ≢ b → d ≤ spare_of (get_or left a (pos 0)) → d ≤ need_of (get_or left b (pos 0)) →
    (sum_by need_of (settled left a b d) + d ≡ sum_by need_of left) × (sum_by spare_of (settled left a b d) + d ≡ sum_by spare_of left)
settled_sums left a b d a_in b_in ne low_a low_b =
    let x = get_or left a (pos 0) in
    let y = get_or left b (pos 0) in
    let mid = set left a (x +ℤ pos d) in
    let long : length mid ≡ length left = length-set left a (x +ℤ pos d) in
    let n = need_less y d low_b in
    let s = spare_less x d low_a in
    let not_a : b ≢ a = omega arith in
    let at_b : get_or mid b (pos 0) ≡ y = get_or-set_other left a b (x +ℤ pos d) (pos 0) not_a in
    let n1 = sum_by-set need_of left a (x +ℤ pos d) (pos 0) a_in in
    let s1 = sum_by-set spare_of left a (x +ℤ pos d) (pos 0) a_in in
    let n2 : sum_by need_of (set mid b (y -ℤ pos d)) + need_of y ≡ sum_by need_of mid + need_of (y -ℤ pos d) = rw at_b at (sum_by-set need_of mid b (y -ℤ pos d) (pos 0) (omega arith)) in
    let s2 : sum_by spare_of (set mid b (y -ℤ pos d)) + spare_of y ≡ sum_by spare_of mid + spare_of (y -ℤ pos d) = rw at_b at (sum_by-set spare_of mid b (y -ℤ pos d) (pos 0) (omega arith)) in
    (omega (arith, n.0, s.1), omega (arith, s.0, n.1))

-- a difference
pub parts_of : (a b : ℕ) → (need_of (pos a -ℤ pos b) ≡ a - b) × (need_of (pos a -ℤ pos b) + b ≡ spare_of (pos a -ℤ pos b) + a)
parts_of a b =
    elim (le_or b a) [
      | inl low ↦ (let e : pos a -ℤ pos b ≡ pos (a - b) = omega (arith, ints) in rw e (refl, omega arith))
      | inr high ↦ (let e : pos a -ℤ pos b ≡ negsuc (b - a - 1) = omega (arith, ints) in rw e (omega arith, omega arith))
    ]

root_parts : (n : ℕ) → (need_of (neg_ℤ (pos n)) ≡ 0) × (spare_of (neg_ℤ (pos n)) ≡ n)
root_parts zero = (refl, refl)
root_parts (suc n) = (refl, omega arith)

-- the sum of a part of the balances
sum_of_parts : (f : ℤ → ℕ) (p : Problem) (n : ℕ) → sum_by f (map (balance p) (range_with_len 0 n)) ≡ sum_below (λ k. f (balance p k)) n
sum_of_parts f p zero = refl
sum_of_parts f p (suc n) =
    let e = sum_by-map-range_with_len_more f (balance p) 0 n n (omega arith) ∙ ap (λ x. x + f (balance p n)) (sum_of_parts f p n) in
    rw add-one at e

pub sum_of_balances : (f : ℤ → ℕ) (p : Problem) → sum_by f (balances p) ≡ sum_below (λ k. f (balance p k)) (length p.ops) + f (neg_ℤ (pos (length p.ops)))
sum_of_balances f p =
    sum_by_push f (map (balance p) (range_with_len 0 (length p.ops))) (neg_ℤ (pos (length p.ops)))
    ∙ ap (λ x. x + f (neg_ℤ (pos (length p.ops)))) (sum_of_parts f p (length p.ops))

-- the one term at k
below-one : (k x n : ℕ) → k < n → sum_below (λ v. cond (k == v) x 0) n ≡ x
below-one k x zero h = omega arith
below-one k x (suc n) h =
    elim (same_or_not n k) [
      | inl e ↦
          (let none : sum_below (λ v. cond (k == v) x 0) n ≡ 0 = below-none (λ v. cond (k == v) x 0) n (λ v b. (let ne : v ≢ k = omega arith in rw (other_test k v ne) refl)) in
          let last : cond (k == n) x 0 ≡ x = rw (e, same_test k) refl in
          omega arith)
      | inr ne ↦
          (let before = below-one k x n (omega arith) in
          let last : cond (k == n) x 0 ≡ 0 = rw (other_test k n ne) refl in
          omega arith)
    ]

-- the amounts of all operations are the amounts of all members
pub below-amounts : {X : Type 0} (place amount : X → ℕ) (n : ℕ) (xs : List X) → All (λ x. place x < n) xs → sum_below (amount_at place amount xs) n ≡ sum_by amount xs
below-amounts place amount n [] inside = below-none (λ v. 0) n (λ v b. refl)
below-amounts place amount n (x ∷ xs) inside =
    rw (sum_by-cons amount x xs)
    (below-same (amount_at place amount (x ∷ xs)) (λ v. cond (place x == v) (amount x) 0 + amount_at place amount xs v) n (λ v b. sum_by-cons (λ y. cond (place y == v) (amount y) 0) x xs)
    ∙ (below-add (λ v. cond (place x == v) (amount x) 0) (amount_at place amount xs) n
    ∙ omega (arith, below-one (place x) (amount x) n (All-head (λ y. place y < n) x xs inside), below-amounts place amount n xs (All-tail (λ y. place y < n) x xs inside))))

below-ones : (n : ℕ) → sum_below (λ v. 1) n ≡ n
below-ones zero = refl
below-ones (suc n) = (let e = below-ones n in omega arith)

below-le : (f g : ℕ → ℕ) (n : ℕ) → ((v : ℕ) → v < n → f v ≤ g v) → sum_below f n ≤ sum_below g n
below-le f g zero h = omega arith
below-le f g (suc n) h = (let rest = below-le f g n (λ v b. h v (omega arith)) in let last = h n (omega arith) in omega arith)

-- all that is needed is there to spare
pub even_balances : (p : Problem) → IsValidProblem p → (sum_by need_of (balances p) ≡ sum_by spare_of (balances p)) × (sum_by need_of (balances p) < 2 ^ 40) × (sum_by need_of (balances p) ≡ sum_of_needs p)
even_balances p valid =
    let n = length p.ops in
    let weigh : ℕ × ℕ → ℕ = λ (e : ℕ × ℕ). weight_of (node_at p e.0) in
    let ins : sum_below (weight_in p) n ≡ sum_by (λ (e : ℕ × ℕ). weight_of (node_at p e.0)) p.edges = below-amounts (λ (e : ℕ × ℕ). e.1) (λ (e : ℕ × ℕ). weight_of (node_at p e.0)) n p.edges (λ k d b. (valid.forward k d b).1) in
    let outs : sum_below (weight_out p) n ≡ sum_by (λ (e : ℕ × ℕ). weight_of (node_at p e.0)) p.edges
    = below-amounts (λ (e : ℕ × ℕ). e.0) (λ (e : ℕ × ℕ). weight_of (node_at p e.0)) n p.edges (λ k d b. (let f = valid.forward k d b in omega arith)) in
    let total = sum_by-le (λ (e : ℕ × ℕ). weight_of (node_at p e.0)) 128 p.edges (λ k d b. weight_low p valid (get_or p.edges k d).0) in
    let few = few_edges p valid in
    let few_ops = valid.few in
    let ones = below-ones n in
    let needs = below-add (λ k. need_of (balance p k)) (weight_out p) n in
    let spares = below-add (λ k. spare_of (balance p k)) (λ k. 1 + weight_in p k) n in
    let with_ones = below-add (λ k. 1) (weight_in p) n in
    let same = below-same (λ k. need_of (balance p k) + weight_out p k) (λ k. spare_of (balance p k) + (1 + weight_in p k)) n (λ k b. (parts_of (1 + weight_in p k) (weight_out p k)).1) in
    let most = below-le (λ k. need_of (balance p k)) (λ k. 1 + weight_in p k) n (λ k b. (let e = (parts_of (1 + weight_in p k) (weight_out p k)).0 in omega arith)) in
    let need_sum = sum_of_balances need_of p in
    let spare_sum = sum_of_balances spare_of p in
    let root = root_parts n in
    let named : sum_below (λ k. need_of (balance p k)) n ≡ sum_of_needs p = below-same (λ k. need_of (balance p k)) (λ k. 1 + weight_in p k - weight_out p k) n (λ k b. (parts_of (1 + weight_in p k) (weight_out p k)).0) in
    (omega (arith, root.0, root.1), omega (arith, root.0, root.1), omega (arith, root.0))

-- the balance of an operation
pub balance_there : (p : Problem) (v : ℕ) → v < length p.ops → get_or (balances p) v (pos 0) ≡ balance p v
balance_there p v b =
    let n = length p.ops in
    let each = map (balance p) (range_with_len 0 n) in
    let long : length each ≡ n = length-map-range_with_len (balance p) 0 n in
    get_or_append_left each (neg_ℤ (pos n) ∷ []) (pos 0) v (omega arith) ∙ get_or-map-range_with_len (balance p) 0 n v v (pos 0) b (omega arith)

pub balances_long : (p : Problem) → length (balances p) ≡ length p.ops + 1
balances_long p = length_push (map (balance p) (range_with_len 0 (length p.ops))) (neg_ℤ (pos (length p.ops))) ∙ ap (λ x. x + 1) (length-map-range_with_len (balance p) 0 (length p.ops))

-- a list of which the sum is 0
pub none_of_sum : (f : ℤ → ℕ) (xs : List ℤ) → sum_by f xs ≡ 0 → All (λ x. f x ≡ 0) xs
none_of_sum f xs e k d b = (let part = get_or-le-sum_by f xs k d b in omega arith)

pub sum_of_none : (f : ℤ → ℕ) (xs : List ℤ) → All (λ x. f x ≡ 0) xs → sum_by f xs ≡ 0
sum_of_none f [] h = refl
sum_of_none f (x ∷ xs) h = rw (sum_by-cons f x xs) (omega (arith, All-head (λ y. f y ≡ 0) x xs h, sum_of_none f xs (All-tail (λ y. f y ≡ 0) x xs h)))

pub all_none : (xs : List ℤ) → sum_by need_of xs ≡ 0 → sum_by spare_of xs ≡ 0 → All (λ x. x ≡ pos 0) xs
all_none xs n s k d b = none_at_all (get_or xs k d) (none_of_sum need_of xs n k d b) (none_of_sum spare_of xs s k d b)
