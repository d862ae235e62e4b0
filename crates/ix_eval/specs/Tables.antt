-- Lists of what a function gives at the first numbers.
use Rattle.std.specs.Prelude.{ℕ, zero, suc, List, [], ◌∷◌}

-- f 0 to f (n - 1)
abbrev pub table : {A : Type 0} → (ℕ → A) → ℕ → List A
table f zero = []
table f (suc n) = f 0 ∷ table (λ r. f (suc r)) n
