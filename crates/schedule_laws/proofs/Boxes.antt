-- Lists within bounds, of which there are finitely many.
use Rattle.std.proofs.Common.{◌≡◌, ℕ, zero, suc, ◌≤◌, ◌<◌, List, [], ◌∷◌, length, get_or, arith, ◌⊎◌, inl, inr}
use Rattle.schedule_laws.proofs.Deciding.{Decided}

-- each number is at most its bound
abbrev pub InBox : List ℕ → List ℕ → Type 0
InBox [] [] = Unit {0}
InBox [] (x ∷ xs) = ⊥
InBox (b ∷ bs) [] = ⊥
InBox (b ∷ bs) (x ∷ xs) = (x ≤ b) × InBox bs xs

pub in_box : (bs xs : List ℕ) → length xs ≡ length bs → ((k : ℕ) → k < length bs → get_or xs k 0 ≤ get_or bs k 0) → InBox bs xs
in_box [] [] len each = tt
in_box [] (x ∷ xs) len each = absurd (omega arith)
in_box (b ∷ bs) [] len each = absurd (omega arith)
in_box (b ∷ bs) (x ∷ xs) len each = (each zero (omega arith), in_box bs xs (omega arith) (λ k k_in. each (suc k) (omega arith)))

-- one of them is found, or there is none
abbrev pub Search : List ℕ → (List ℕ → Type 0) → Type 0
Search bs Q = ((xs : List ℕ) × Q xs) ⊎ ((xs : List ℕ) → InBox bs xs → Q xs → ⊥)

at_most : (x m : ℕ) → x ≤ suc m → (x ≤ m) ⊎ (x ≡ suc m)
at_most x m h = grind arith

none_empty : (Q : List ℕ → Type 0) → (Q [] → ⊥) → (xs : List ℕ) → InBox [] xs → Q xs → ⊥
none_empty Q no_q [] inside q = no_q q
none_empty Q no_q (x ∷ xs) inside q = inside

none_full : (Q : List ℕ → Type 0) (b : ℕ) (bs : List ℕ) → ((x : ℕ) (xs : List ℕ) → x ≤ b → InBox bs xs → Q (x ∷ xs) → ⊥) → (xs : List ℕ) → InBox (b ∷ bs) xs → Q xs → ⊥
none_full Q b bs none [] inside q = inside
none_full Q b bs none (x ∷ xs) inside q = none x xs inside.0 inside.1 q

-- the first number is at most m
up_to : (Q : List ℕ → Type 0) (bs : List ℕ) → ((x : ℕ) → Search bs (λ xs. Q (x ∷ xs))) → (m : ℕ) → ((xs : List ℕ) × Q xs) ⊎ ((x : ℕ) (xs : List ℕ) → x ≤ m → InBox bs xs → Q (x ∷ xs) → ⊥)
up_to Q bs each zero =
    elim (each 0) [
      | inl found ↦ inl (0 ∷ found.0, found.1)
      | inr none ↦ inr (λ x xs le inside q. none xs inside (let e : x ≡ 0 = omega arith in rw e at q))
    ]
up_to Q bs each (suc m) =
    elim (up_to Q bs each m) [
      | inl found ↦ inl found
      | inr none ↦
          elim (each (suc m)) [
            | inl found ↦ inl (suc m ∷ found.0, found.1)
            | inr no_last ↦ inr (λ x xs le inside q. elim (at_most x m le) [
              | inl low ↦ none x xs low inside q
              | inr e ↦ no_last xs inside (rw e at q)
            ])
          ]
    ]

pub search_box : (bs : List ℕ) (Q : List ℕ → Type 0) → ((xs : List ℕ) → Decided (Q xs)) → Search bs Q
search_box [] Q d =
    elim (d []) [
      | inl q ↦ inl ([], q)
      | inr no_q ↦ inr (none_empty Q no_q)
    ]
search_box (b ∷ bs) Q d =
    elim (up_to Q bs (λ x. search_box bs (λ xs. Q (x ∷ xs)) (λ xs. d (x ∷ xs))) b) [
      | inl found ↦ inl found
      | inr none ↦ inr (none_full Q b bs none)
    ]
