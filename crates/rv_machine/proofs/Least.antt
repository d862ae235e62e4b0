-- The least register that is waited for, with the oldest serial that writes it.
use Rattle.std.proofs.Common.{◌≡◌, ℕ, zero, suc, ◌+◌, ◌<◌, ◌≤◌, Option, Some, None, Bool, true, false, refl, sym, subst, arith, ◌⊎◌, inl, inr}
use Rattle.std.specs.Prelude.{if◌then◌else◌, nat_lt}
use Rattle.std.proofs.lemmas.Bool.{cases_lt}
use Rattle.std.proofs.lemmas.Bool.Decides.{nat_tests}
use Rattle.rv_holds.specs.Tokens.{or_else}
use Rattle.rv_holds.specs.Holds.{numbered, least_from, lower_of}

-- of the serials of which this is true with the register n, this is the least, or there is none
abbrev pub OneIs : (ℕ → ℕ → Type 0) → ℕ → Option ℕ → Type 0
OneIs P n None = (j : ℕ) → P n j → ⊥
OneIs P n (Some i) = P n i × ((j : ℕ) → P n j → i ≤ j)

-- the same with the least of so many registers from this one on
abbrev pub LeastIs : (ℕ → ℕ → Type 0) → ℕ → ℕ → Option (ℕ × ℕ) → Type 0
LeastIs P r c None = (n j : ℕ) → r ≤ n → n < r + c → P n j → ⊥
LeastIs P r c (Some x) =
    P x.0 x.1 × (r ≤ x.0) × (x.0 < r + c)
    × ((n j : ℕ) → r ≤ n → n < r + c → P n j → (x.0 < n) ⊎ ((x.0 ≡ n) × (x.1 ≤ j)))

pub least_is : (P : ℕ → ℕ → Type 0) (f : ℕ → Option ℕ) (r c : ℕ) → ((n : ℕ) → OneIs P n (f n)) → LeastIs P r c (least_from f r c)
least_is P f r zero one = λ n j le lt w. omega (arith, le, lt)
least_is P f r (suc c) one = by_one (f r) (one r) (least_from f (suc r) c) (least_is P f (suc r) c one) where
  same : (a b j : ℕ) → a ≡ b → P a j → P b j
  same a b j e w = subst (λ q. P q j) e w

  by_one : (o : Option ℕ) → OneIs P r o → (p : Option (ℕ × ℕ)) → LeastIs P (suc r) c p → LeastIs P r (suc c) (or_else (numbered r o) p)
  by_one (Some i) x p y = (
    x.0,
    omega arith,
    omega arith,
    λ n j le lt w. elim (cases_lt r n) [
      | inl less ↦ inl less
      | inr more ↦ let e : n ≡ r = omega (arith, le, more) in inr (sym e, x.1 j (same n r j e w))
    ],
  )
  by_one None x None y = λ n j le lt w. elim (cases_lt r n) [
    | inl less ↦ y n j (omega (arith, less)) (omega (arith, lt)) w
    | inr more ↦ let e : n ≡ r = omega (arith, le, more) in x j (same n r j e w)
  ]
  by_one None x (Some h) y =
      let low = y.1 in
      let high = y.2 in (
        y.0,
        omega (arith, low),
        omega (arith, high),
        λ n j le lt w. elim (cases_lt r n) [
          | inl less ↦ y.3 n j (omega (arith, less)) (omega (arith, lt)) w
          | inr more ↦ let e : n ≡ r = omega (arith, le, more) in absurd (x j (same n r j e w))
        ],
      )

-- either is true
abbrev pub Either : (ℕ → ℕ → Type 0) → (ℕ → ℕ → Type 0) → ℕ → ℕ → Type 0
Either P Q n j = P n j ⊎ Q n j

-- where the serials of the first kind are below those of the second
module _ (P Q : ℕ → ℕ → Type 0) (r c : ℕ) (order : (n m i j : ℕ) → P n i → Q m j → i ≤ j) where
  first_least : (x : ℕ × ℕ) → LeastIs P r c (Some x) → ((n j : ℕ) → r ≤ n → n < r + c → Q n j → x.0 ≤ n) → LeastIs (Either P Q) r c (Some x)
  first_least x h below = (
    inl h.0,
    h.1,
    h.2,
    λ n j le lt w. elim w [
      | inl p ↦ h.3 n j le lt p
      | inr q ↦ elim (cases_lt x.0 n) [
        | inl less ↦ inl less
        | inr more ↦
            let b = below n j le lt q in
            inr (omega (arith, more, b), order x.0 n x.1 j h.0 q)
      ]
    ],
  )

  second_least : (x : ℕ × ℕ) → LeastIs Q r c (Some x) → ((n j : ℕ) → r ≤ n → n < r + c → P n j → x.0 < n) → LeastIs (Either P Q) r c (Some x)
  second_least x h below = (
    inr h.0,
    h.1,
    h.2,
    λ n j le lt w. elim w [
      | inl p ↦ inl (below n j le lt p)
      | inr q ↦ h.3 n j le lt q
    ],
  )

  at_least : (a n i j : ℕ) → (a < n) ⊎ ((a ≡ n) × (i ≤ j)) → a ≤ n
  at_least a n i j (inl lt) = omega (arith, lt)
  at_least a n i j (inr e) = let s = e.0 in omega (arith, s)

  not_lower : (a b : ℕ) → nat_lt a b ≡ false → b ≤ a
  not_lower a b h = grind (arith, nat_tests)

  is_lower : (a b : ℕ) → nat_lt a b ≡ true → a < b
  is_lower a b h = grind (arith, nat_tests)

  pub lower_is : (o p : Option (ℕ × ℕ)) → LeastIs P r c o → LeastIs Q r c p → LeastIs (Either P Q) r c (lower_of o p)
  lower_is None None h g = λ n j le lt w. elim w [ inl x ↦ h n j le lt x | inr y ↦ g n j le lt y ]
  lower_is None (Some y) h g = second_least y g (λ n j le lt x. absurd (h n j le lt x))
  lower_is (Some x) None h g = first_least x h (λ n j le lt y. absurd (g n j le lt y))
  lower_is (Some x) (Some y) h g = by_case (nat_lt y.0 x.0) refl where
    by_case : (b : Bool) → nat_lt y.0 x.0 ≡ b → LeastIs (Either P Q) r c (if b then Some y else Some x)
    by_case true e =
        let lt = is_lower y.0 x.0 e in
        second_least y g (λ n j le below p. let a = at_least x.0 n x.1 j (h.3 n j le below p) in omega (arith, lt, a))
    by_case false e =
        let le = not_lower y.0 x.0 e in
        first_least x h (λ n j from below q. let a = at_least y.0 n y.1 j (g.3 n j from below q) in omega (arith, le, a))
