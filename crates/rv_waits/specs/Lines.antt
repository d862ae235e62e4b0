-- The rows in which an interrupt line is raised (this project's choice).
use Rattle.std.specs.Prelude.{ℕ, suc, ◌<◌, ◌≤◌, List, [], ◌∷◌, Bool, nat_eq}
use Rattle.std.specs.List.{list_any}

-- the greatest count of rows
abbrev pub most_lines : ℕ
most_lines = 4096

-- each row has a lower number
abbrev pub rows_end : ℕ
rows_end = 200000

-- the first of the rows is this one or a later one, and each of the others is above the one before
abbrev pub Ascending : ℕ → List ℕ → Type 0
Ascending least [] = Unit {0}
Ascending least (row ∷ lines) = (least ≤ row) × (row < rows_end) × Ascending (suc row) lines

-- the row behind the last one, or this one where there is none
abbrev pub behind : ℕ → List ℕ → ℕ
behind least [] = least
behind least (row ∷ lines) = behind (suc row) lines

-- the least row that may come behind these
abbrev pub next_row : List ℕ → ℕ
next_row lines = behind 0 lines

-- is the line raised in this row?
abbrev pub is_raised : List ℕ → ℕ → Bool
is_raised lines row = list_any (λ n. nat_eq n row) lines
