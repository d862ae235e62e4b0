-- Parts of what is known of a row, as they are computed (this project's choice).
use Rattle.std.specs.Prelude.{◌≡◌, ℕ, ◌<◌, List, ◌∷◌, length, slice_get, Option, Some, None, Bool, true, false, if◌then◌else◌, is_some}
use Rattle.rv_asks.specs.declared.asks.Asks.{Asks}
use Rattle.rv_seq.specs.declared.commit.Commit.{Commit}
use Rattle.rv_trace.specs.declared.row.Cell.{Cell}
use Rattle.rv_trace.specs.declared.row.Row.{Row}
use Rattle.rv_lawful.specs.Settings.{Setting}
use Rattle.rv_lawful.specs.LawfulTrace.{IsWordOf}
use Rattle.rv_rows.specs.Kinds.{upper}
use Rattle.rv_watch.specs.Kept.{was_here}
use Rattle.rv_past.specs.declared.due.Due.{Due}
use Rattle.rv_owing.specs.Owing.{into_unit}
use Rattle.rv_past.specs.declared.step.Step.{Step}

-- what a row retires into a unit, where this is its step and so many are retired before
abbrev pub entering_by : Due → ℕ → Option (ℕ × Commit) → Option (ℕ × ℕ × ℕ × Asks)
entering_by next retired None = None
entering_by next retired (Some r) = into_unit r.0 retired next.asks next.asks.unit

-- the number, where the cell stood there in the row before, and else 0
abbrev pub so_far : ℕ → Option Cell → Option Cell → ℕ
so_far number before None = 0
so_far number before (Some c) = if was_here before c.serial then number else 0

-- does the `spawn` body write an x register?
abbrev pub does_spawn : Option Asks → Bool
does_spawn None = false
does_spawn (Some a) = is_some a.spawned

-- it says whether the instruction of this serial has an x register as `spawn` target
abbrev pub TellsPort : Setting → List Row → Row → ℕ → Bool → Type 0
TellsPort k earlier row j told =
    (told ≡ true → (word : ℕ) × IsWordOf k (upper row ∷ earlier) j word × (is_some (k.asks word).spawned ≡ true))
    × ((word : ℕ) → IsWordOf k (upper row ∷ earlier) j word → is_some (k.asks word).spawned ≡ true → told ≡ true)

-- of a serial that is due, with its place and what is asked, this is the serial with its step
abbrev pub IsDueStep : List Step → Option (ℕ × ℕ × Asks) → Option (ℕ × Due) → Type 0
IsDueStep steps None None = Unit {0}
IsDueStep steps None (Some w) = ⊥
IsDueStep steps (Some d) None = ⊥
IsDueStep steps (Some d) (Some w) = (w.0 ≡ d.0) × (w.1.asks ≡ d.2) × (d.1 < length steps → slice_get steps d.1 ≡ Some w.1.step)
