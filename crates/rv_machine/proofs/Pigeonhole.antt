-- Different numbers below a bound are no more than the bound.
use Rattle.std.proofs.Common.{◌≡◌, refl, ap, subst, ℕ, zero, suc, ◌<◌, ◌≤◌, List, [], ◌∷◌, length, Bool, true, false, arith}
use Rattle.std.specs.Prelude.{if◌then◌else◌, ◌==◌}
use Rattle.rv_machine.proofs.Deciding.{test_eq, test_ne}

-- each is below the bound
abbrev pub Below : ℕ → List ℕ → Type 0
Below n [] = Unit {0}
Below n (x ∷ xs) = (x < n) × Below n xs

-- none is this one
abbrev pub Without : ℕ → List ℕ → Type 0
Without n [] = Unit {0}
Without n (x ∷ xs) = (n ≡ x → ⊥) × Without n xs

-- no two are one
abbrev pub NoTwo : List ℕ → Type 0
NoTwo [] = Unit {0}
NoTwo (x ∷ xs) = Without x xs × NoTwo xs

-- the others
abbrev others : ℕ → List ℕ → List ℕ
others n [] = []
others n (x ∷ xs) = if x == n then others n xs else x ∷ others n xs

others_below : (n : ℕ) (xs : List ℕ) → Below (suc n) xs → Below n (others n xs)
others_below n [] h = tt
others_below n (x ∷ xs) h = by_case (x == n) refl (others_below n xs h.1) where
  less : (x n : ℕ) → x < suc n → (x ≡ n → ⊥) → x < n
  less x n l apart = grind (arith, l, apart)

  by_case : (b : Bool) → (x == n) ≡ b → Below n (others n xs) → Below n (if b then others n xs else x ∷ others n xs)
  by_case true e rest = rest
  by_case false e rest = (less x n h.0 (λ same. test_ne x n e same), rest)

others_without : (n m : ℕ) (xs : List ℕ) → Without m xs → Without m (others n xs)
others_without n m [] h = tt
others_without n m (x ∷ xs) h = by_case (x == n) (others_without n m xs h.1) where
  by_case : (b : Bool) → Without m (others n xs) → Without m (if b then others n xs else x ∷ others n xs)
  by_case true rest = rest
  by_case false rest = (h.0, rest)

others_apart : (n : ℕ) (xs : List ℕ) → NoTwo xs → NoTwo (others n xs)
others_apart n [] h = tt
others_apart n (x ∷ xs) h = by_case (x == n) (others_apart n xs h.1) where
  by_case : (b : Bool) → NoTwo (others n xs) → NoTwo (if b then others n xs else x ∷ others n xs)
  by_case true rest = rest
  by_case false rest = (others_without n x xs h.0, rest)

others_all : (n : ℕ) (xs : List ℕ) → Without n xs → length (others n xs) ≡ length xs
others_all n [] h = refl
others_all n (x ∷ xs) h = by_case (x == n) refl (others_all n xs h.1) where
  by_case : (b : Bool) → (x == n) ≡ b → length (others n xs) ≡ length xs → length (if b then others n xs else x ∷ others n xs) ≡ suc (length xs)
  by_case true e rest = let same = test_eq x n e in absurd (h.0 (omega (arith, same)))
  by_case false e rest = ap suc rest

-- at most one is left out
one_out : (n : ℕ) (xs : List ℕ) → NoTwo xs → length xs ≤ suc (length (others n xs))
one_out n [] h = omega arith
one_out n (x ∷ xs) h = by_case (x == n) refl (one_out n xs h.1) where
  by_case : (b : Bool) → (x == n) ≡ b → length xs ≤ suc (length (others n xs)) → suc (length xs) ≤ suc (length (if b then others n xs else x ∷ others n xs))
  by_case true e rest =
      let all = others_all n xs (subst (λ m. Without m xs) (test_eq x n e) h.0) in
      omega (arith, all)
  by_case false e rest = omega (arith, rest)

pub at_most : (n : ℕ) (xs : List ℕ) → Below n xs → NoTwo xs → length xs ≤ n
at_most zero [] below apart = omega arith
at_most zero (x ∷ xs) below apart = let l = below.0 in absurd (omega (arith, l))
at_most (suc n) xs below apart =
    let rest = at_most n (others n xs) (others_below n xs below) (others_apart n xs apart) in
    let out = one_out n xs apart in
    omega (arith, rest, out)
