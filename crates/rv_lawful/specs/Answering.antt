-- How many rows pass before a row takes an interrupt that is to be taken (this project's choice).
use Rattle.std.specs.Prelude.{◌≡◌, ℕ, suc, ◌+◌, ◌-◌, ◌*◌, ◌≤◌, List, [], ◌∷◌, Some, true, ◌&&◌, if◌then◌else◌, is_some, is_none}
use Rattle.rv_core.specs.declared.Shape.{Shape}
use Rattle.rv_seq.specs.declared.commit.Stop.{Stop}
use Rattle.rv_trace.specs.declared.row.Row.{Row}
use Rattle.rv_lawful.specs.Entering.{places, is_interrupted}
use Rattle.rv_lawful.specs.LawfulTrace.{Judging}

-- for how many rows in succession, up to the last of these, an interrupt was to be taken and was not
unfoldable pub rows_interrupted : Judging → List Row → ℕ
rows_interrupted by [] = 0
rows_interrupted by (row ∷ earlier) = if is_interrupted (by (places earlier)) earlier && is_none row.taken then suc (rows_interrupted by earlier) else 0

-- the bound on these, in rows: each stage above EX may hold an instruction, and this bound says for how many rows none retires
abbrev pub entry_bound : Shape → ℕ → ℕ
entry_bound k bound = (k.stages - 1 - k.ex) * (bound + 1)

-- an interrupt that is to be taken is taken within this bound, and no stop comes before
abbrev pub Answering : Judging → ℕ → List Row → Type 0
Answering by bound [] = Unit {0}
Answering by bound (row ∷ earlier) =
    (rows_interrupted by (row ∷ earlier) ≤ bound) × ((stop : Stop) → row.stop ≡ Some stop → is_interrupted (by (places earlier)) earlier ≡ true → is_some row.taken ≡ true)
    × Answering by bound earlier
