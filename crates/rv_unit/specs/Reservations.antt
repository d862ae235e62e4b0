-- The scoreboard: which registers have an outstanding write (SCAIE-V, decoupled execution).
use Rattle.std.specs.Prelude.{ℕ, ◌+◌, ◌<◌, List, Option, Some, None, slice_set, slice_index_or}
use Rattle.ix_plan.specs.declared.design.Target.{Target}
use Rattle.ix_plan.specs.declared.design.Target.TheVariants.{X, Custom}

-- the register exists: 32 of the base, 16 custom ones
abbrev pub IsTarget : Target → Type 0
IsTarget (X r) = r < 32
IsTarget (Custom c) = c < 16

-- a register's place on the scoreboard: those of the base and then the custom ones
abbrev pub target_number : Target → ℕ
target_number (X r) = r
target_number (Custom c) = 32 + c

-- the serial that has reserved the register, if any
abbrev pub holder_of : List (Option ℕ) → Target → Option ℕ
holder_of board t = slice_index_or board (target_number t) None

-- the scoreboard where this serial reserves the register
abbrev pub reserved : List (Option ℕ) → Target → ℕ → List (Option ℕ)
reserved board t serial = slice_set board (target_number t) (Some serial)

-- the scoreboard where the register is free
abbrev pub freed : List (Option ℕ) → Target → List (Option ℕ)
freed board t = slice_set board (target_number t) None
