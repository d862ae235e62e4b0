-- The lists that are kept of what is outstanding, and what stands at the last time of a unit (this project's choice).
use Rattle.std.specs.Prelude.{◌≡◌, ℕ, ◌+◌, ◌<◌, List, [], ◌∷◌, Option, Some, None, Bool, true, false, ◌&&◌, ◌==◌, if◌then◌else◌}
use Rattle.std.specs.List.{remove}
use Rattle.std.specs.Option.{option_or}
use Rattle.rv_asks.specs.declared.asks.Asks.{Asks}
use Rattle.rv_unit.specs.declared.entry.Entry.{Entry}
use Rattle.rv_lawful.specs.Outstanding.{is_serial}
use Rattle.rv_rows.specs.declared.known.Owed.{Owed}

-- the serial of the oldest entry of a unit
abbrev pub oldest_in : ℕ → List Entry → Option ℕ
oldest_in u [] = None
oldest_in u (e ∷ older) = option_or (oldest_in u older) (if e.unit == u then Some e.serial else None)

-- the unit is the lowest one that shows this serial, of the 72 that there may be; and there is none where none shows it
abbrev pub IsLowest : (ℕ → Option ℕ) → ℕ → Option ℕ → Type 0
IsLowest shows s None = (u : ℕ) → u < 72 → is_serial (shows u) s ≡ false
IsLowest shows s (Some u) = (is_serial (shows u) s ≡ true) × ((v : ℕ) → v < u → is_serial (shows v) s ≡ false)

-- the place of the first with this serial, where the first one of all has the place `at`
abbrev pub place_from : ℕ → ℕ → List Owed → Option ℕ
place_from at s [] = None
place_from at s (w ∷ rest) = if w.serial == s then Some at else place_from (at + 1) s rest

-- the place of the one with this serial, where there is a serial
abbrev pub place_among : Option ℕ → List Owed → Option ℕ
place_among None owed = None
place_among (Some s) owed = place_from 0 s owed

-- a list without what stands at a place
abbrev pub without_at : {A : Type 0} → Option ℕ → List A → List A
without_at None xs = xs
without_at (Some at) xs = remove xs at

-- all of these have this serial
abbrev pub are_all : Option ℕ → List Owed → Bool
are_all written [] = true
are_all written (w ∷ rest) = is_serial written w.serial && are_all written rest

-- an instruction that enters, where one does, has this serial
abbrev pub is_none_but : Option ℕ → Option ℕ → Bool
is_none_but written None = true
is_none_but written (Some s) = is_serial written s

-- What enters

-- the unit and the serial
abbrev pub unit_entering : Option (ℕ × ℕ × ℕ × Asks) → Option (ℕ × ℕ)
unit_entering None = None
unit_entering (Some e) = Some (e.0, e.1)

-- what is owed then
abbrev pub owed_entering : Option (ℕ × ℕ × ℕ × Asks) → List Owed
owed_entering None = []
owed_entering (Some e) = record { serial = e.1; asks = e.3 } ∷ []

-- and its place in the run
abbrev pub place_entering : Option (ℕ × ℕ × ℕ × Asks) → List ℕ
place_entering None = []
place_entering (Some e) = e.2 ∷ []
