-- The edges of a graph go from an operation to a later one, in order, and stand once.
use Rattle.std.proofs.Common.{◌≡◌, ◌≢◌, ℕ, zero, suc, ◌+◌, ◌≤◌, ◌<◌, Bool, List, [], ◌∷◌, ◌++◌, length, map, ap, sym, refl, arith, inl, inr}
use Rattle.std.specs.Prelude.{All, AllPairs, filter}
use Rattle.std.specs.List.{list_any, range_with_len}
use Rattle.std.proofs.lemmas.Bool.{cases_Bool}
use Rattle.std.proofs.lemmas.List.Elements.{All-nil, All-cons, All-head, All-tail, All-append, All-weaker}
use Rattle.std.proofs.lemmas.List.Kept.{AllPairs-cons}
use Rattle.ix_graph.specs.declared.graph.Op.{Op}
use Rattle.ix_sheet.specs.Behaviours.{ComesBefore, names_op, edges_into, edges_from}

by_start : (e f : ℕ × ℕ) → e.1 ≡ f.1 → e.0 < f.0 → ComesBefore e f
by_start e f same less = inr (same, less)

by_end : (e f : ℕ × ℕ) → e.1 < f.1 → ComesBefore e f
by_end e f less = inl less

pairs_nil : AllPairs ComesBefore []
pairs_nil i j d less h = absurd (omega arith)

pairs_head : (x : ℕ × ℕ) (xs : List (ℕ × ℕ)) → AllPairs ComesBefore (x ∷ xs) → All (ComesBefore x) xs
pairs_head x xs h k d within = h 0 (suc k) d (omega arith) (omega arith)

pairs_tail : (x : ℕ × ℕ) (xs : List (ℕ × ℕ)) → AllPairs ComesBefore (x ∷ xs) → AllPairs ComesBefore xs
pairs_tail x xs h i j d less within = h (suc i) (suc j) d (omega arith) (omega arith)

pairs_append : (xs ys : List (ℕ × ℕ)) → AllPairs ComesBefore xs → AllPairs ComesBefore ys → All (λ x. All (ComesBefore x) ys) xs → AllPairs ComesBefore (xs ++ ys)
pairs_append [] ys a b across = b
pairs_append (x ∷ xs) ys a b across =
    AllPairs-cons ComesBefore x (xs ++ ys)
    (All-append (ComesBefore x) xs ys (pairs_head x xs a) (All-head (λ y. All (ComesBefore y) ys) x xs across))
    (pairs_append xs ys (pairs_tail x xs a) b (All-tail (λ y. All (ComesBefore y) ys) x xs across))

-- an edge to j from a number from a on and below b
pub record IsInto (a b j : ℕ) (e : ℕ × ℕ) : Type 0 where
  pub from : a ≤ e.0
  pub below : e.0 < b
  pub end : e.1 ≡ j

abbrev starts : (ℕ → Bool) → ℕ → ℕ → ℕ → List (ℕ × ℕ)
starts p j a n = map (λ i. (i, j)) (filter p (range_with_len a n))

into_later : (a b j : ℕ) (e : ℕ × ℕ) → IsInto (a + 1) b j e → IsInto a b j e
into_later a b j e h = record { from = omega (arith, h.from); below = h.below; end = h.end }

starts_into : (p : ℕ → Bool) (j a n : ℕ) → All (IsInto a (a + n) j) (starts p j a n)
starts_into p j a zero = All-nil (IsInto a (a + 0) j)
starts_into p j a (suc n) =
    let rest : All (IsInto (a + 1) (a + 1 + n) j) (starts p j (a + 1) n) = starts_into p j (a + 1) n in
    let same : a + 1 + n ≡ a + suc n = omega arith in
    let later : All (IsInto a (a + suc n) j) (starts p j (a + 1) n) =
    All-weaker (IsInto (a + 1) (a + suc n) j) (IsInto a (a + suc n) j) (into_later a (a + suc n) j) (starts p j (a + 1) n) (rw same at rest)
    in
    elim (cases_Bool (p a)) [
      | inl kept ↦ rw kept (All-cons (IsInto a (a + suc n) j) (a, j) (starts p j (a + 1) n) (record { from = omega arith; below = omega arith; end = refl }) later)
      | inr dropped ↦ rw dropped later
    ]

starts_in_order : (p : ℕ → Bool) (j a n : ℕ) → AllPairs ComesBefore (starts p j a n)
starts_in_order p j a zero = pairs_nil
starts_in_order p j a (suc n) =
    let rest = starts_in_order p j (a + 1) n in
    let into = starts_into p j (a + 1) n in
    let differ : All (ComesBefore (a, j)) (starts p j (a + 1) n) =
    All-weaker (IsInto (a + 1) (a + 1 + n) j) (ComesBefore (a, j)) (λ e h. by_start (a, j) e (sym h.end) (omega (arith, h.from))) (starts p j (a + 1) n) into
    in
    elim (cases_Bool (p a)) [
      | inl kept ↦ rw kept (AllPairs-cons ComesBefore (a, j) (starts p j (a + 1) n) differ rest)
      | inr dropped ↦ rw dropped rest
    ]

-- an edge to an operation from low on and below high, from an earlier one
pub record IsBetween (low high : ℕ) (e : ℕ × ℕ) : Type 0 where
  pub forward : e.0 < e.1
  pub from : low ≤ e.1
  pub below : e.1 < high

between_into : (j high : ℕ) (e : ℕ × ℕ) → j < high → IsInto 0 (0 + j) j e → IsBetween j high e
between_into j high e h into = record {
  forward = omega (arith, into.below, into.end);
  from = omega (arith, into.end);
  below = omega (arith, into.end);
}

between_later : (low high : ℕ) (e : ℕ × ℕ) → IsBetween (low + 1) high e → IsBetween low high e
between_later low high e h = record { forward = h.forward; from = omega (arith, h.from); below = h.below }

pub edges_between : (j : ℕ) (ops : List Op) → All (IsBetween j (j + length ops)) (edges_from j ops)
edges_between j [] = All-nil (IsBetween j (j + 0))
edges_between j (op ∷ ops) =
    let high : ℕ = j + length (op ∷ ops) in
    let within : j < high = omega arith in
    let same : j + 1 + length ops ≡ high = omega arith in
    let rest : All (IsBetween (j + 1) high) (edges_from (j + 1) ops) = rw same at (edges_between (j + 1) ops) in
    All-append (IsBetween j high) (edges_into j op) (edges_from (j + 1) ops)
    (All-weaker (IsInto 0 (0 + j) j) (IsBetween j high) (λ e. between_into j high e within) (edges_into j op) (starts_into (λ i. list_any (names_op i) op.args) j 0 j))
    (All-weaker (IsBetween (j + 1) high) (IsBetween j high) (between_later j high) (edges_from (j + 1) ops) rest)

pub edges_in_order : (j : ℕ) (ops : List Op) → AllPairs ComesBefore (edges_from j ops)
edges_in_order j [] = pairs_nil
edges_in_order j (op ∷ ops) =
    let later = edges_between (j + 1) ops in
    let into = starts_into (λ i. list_any (names_op i) op.args) j 0 j in
    pairs_append (edges_into j op) (edges_from (j + 1) ops)
    (starts_in_order (λ i. list_any (names_op i) op.args) j 0 j)
    (edges_in_order (j + 1) ops)
    (All-weaker (IsInto 0 (0 + j) j) (λ e. All (ComesBefore e) (edges_from (j + 1) ops))
    (λ e h.
    All-weaker (IsBetween (j + 1) (j + 1 + length ops)) (ComesBefore e) (λ f g. by_end e f (omega (arith, h.end, g.from))) (edges_from (j + 1) ops) later)
    (edges_into j op) into)

apart : (e f : ℕ × ℕ) → ComesBefore e f → e ≢ f
apart e f (inl less) same = omega (arith, ap (λ (x : ℕ × ℕ). x.1) same)
apart e f (inr both) same = omega (arith, both.1, ap (λ (x : ℕ × ℕ). x.0) same)

-- what stands in order stands once
pub edges_apart : (j : ℕ) (ops : List Op) → AllPairs (λ e f. e ≢ f) (edges_from j ops)
edges_apart j ops i k d less within = apart _ _ (edges_in_order j ops i k d less within)
