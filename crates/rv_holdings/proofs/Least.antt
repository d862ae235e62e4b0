-- The first register, from one on, that is waited for, with the oldest that has it.
use Rattle.std.proofs.Common.{◌≡◌, ℕ, zero, suc, ◌+◌, ◌<◌, ◌≤◌, Option, Some, None, sym, subst, arith, ◌⊎◌, inl, inr}
use Rattle.std.specs.Option.{option_or}
use Rattle.std.proofs.lemmas.Bool.{cases_lt}
use Rattle.rv_trace.specs.declared.row.Hold.{Hold}
use Rattle.rv_holdings.specs.Expected.{first_from}

module _ (W : ℕ → ℕ → Type 0) (make : ℕ → ℕ → Hold) where
  -- of one register: no serial is waited for, or this is the least
  abbrev pub OneIs : ℕ → Option Hold → Type 0
  OneIs reg None = (j : ℕ) → W reg j → ⊥
  OneIs reg (Some h) = (i : ℕ) × (h ≡ make reg i) × W reg i × ((j : ℕ) → W reg j → i ≤ j)

  -- of so many from this one on
  abbrev pub FirstIs : ℕ → ℕ → Option Hold → Type 0
  FirstIs r n None = (reg j : ℕ) → r ≤ reg → reg < r + n → W reg j → ⊥
  FirstIs r n (Some h) =
      (reg : ℕ) × (i : ℕ) × (h ≡ make reg i) × W reg i × (r ≤ reg) × ((other j : ℕ) → r ≤ other → other < r + n → W other j → (reg < other) ⊎ ((reg ≡ other) × (i ≤ j)))

  same : (a b j : ℕ) → a ≡ b → W a j → W b j
  same a b j e w = subst (λ q. W q j) e w

  by_one : (r n : ℕ) (o p : Option Hold) → OneIs r o → FirstIs (suc r) n p → FirstIs r (suc n) (option_or o p)
  by_one r n (Some h) p x y = (
    r,
    x.0,
    x.1,
    x.2,
    omega arith,
    λ other j le lt w. elim (cases_lt r other) [
      | inl less ↦ inl less
      | inr more ↦ let e : other ≡ r = omega (arith, le, more) in inr (sym e, x.3 j (same other r j e w))
    ],
  )
  by_one r n None None x y = λ reg j le lt w. elim (cases_lt r reg) [
    | inl less ↦ y reg j (omega (arith, less)) (omega (arith, lt)) w
    | inr more ↦ let e : reg ≡ r = omega (arith, le, more) in x j (same reg r j e w)
  ]
  by_one r n None (Some h) x y =
      let le' = y.4 in (
        y.0,
        y.1,
        y.2,
        y.3,
        omega (arith, le'),
        λ other j le lt w. elim (cases_lt r other) [
          | inl less ↦ y.5 other j (omega (arith, less)) (omega (arith, lt)) w
          | inr more ↦ let e : other ≡ r = omega (arith, le, more) in absurd (x j (same other r j e w))
        ],
      )

  pub first_is : (f : ℕ → Option Hold) → ((reg : ℕ) → OneIs reg (f reg)) → (r n : ℕ) → FirstIs r n (first_from f r n)
  first_is f one r zero = λ reg j le lt w. omega (arith, le, lt)
  first_is f one r (suc n) = by_one r n (f r) (first_from f (suc r) n) (one r) (first_is f one (suc r) n)
