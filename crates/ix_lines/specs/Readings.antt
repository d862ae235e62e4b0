-- What it is to read words and lines (this project's choice).
use Rattle.std.specs.Prelude.{ℕ, ◌≡◌, ◌≤◌, List, [], ◌∷◌, map, MatchOption, Bool, true, false, Option, decimal}
use denote.Ref.{Bor}

-- What was found has this form and these words; or nothing that has this form has these words.
abbrev pub IsReading : {X Y : Type 0} → (X → Type 0) → (X → Y) → Y → Option X → Type 0
IsReading {X} good shown all found = MatchOption found ((x : X) → good x → shown x ≡ all → ⊥) (λ x. good x × (shown x ≡ all))

-- each value has this form
abbrev pub IsAny : {X : Type 0} → X → Type 0
IsAny x = Unit {0}

-- an answer tells whether something holds
abbrev pub Tells : Bool → Type 0 → Type 0
Tells true P = P
Tells false P = P → ⊥

-- the words, as texts
abbrev pub texts : List (Bor (List ℕ)) → List (List ℕ)
texts words = map (λ (word : Bor (List ℕ)). word.now) words

-- ---- words behind the first of a line
-- the first word, and those behind it
abbrev pub IsParted : List (List ℕ) → Option (Bor (List ℕ) × Bor (List (Bor (List ℕ)))) → Type 0
IsParted words found = MatchOption found (words ≡ []) (λ x. words ≡ x.0.now ∷ texts x.1.now)

-- a number of at most `most`, and the words behind it
abbrev pub IsCounted : ℕ → List (List ℕ) → Option (ℕ × Bor (List (Bor (List ℕ)))) → Type 0
IsCounted most words found =
    MatchOption found ((n : ℕ) (rest : List (List ℕ)) → n ≤ most → decimal n ∷ rest ≡ words → ⊥)
    (λ x. (x.0 ≤ most) × (decimal x.0 ∷ texts x.1.now ≡ words))

-- a label, a number of at most `most`, and the words behind it
abbrev pub IsLabelled : List ℕ → ℕ → List (List ℕ) → Option (ℕ × Bor (List (Bor (List ℕ)))) → Type 0
IsLabelled label most words found =
    MatchOption found ((n : ℕ) (rest : List (List ℕ)) → n ≤ most → label ∷ decimal n ∷ rest ≡ words → ⊥)
    (λ x. (x.0 ≤ most) × (label ∷ decimal x.0 ∷ texts x.1.now ≡ words))
