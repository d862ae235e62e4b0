-- What is kept of serials with one row more (this project's choice).
use Rattle.std.specs.Prelude.{◌≡◌, ℕ, List, [], ◌∷◌, ◌++◌, length, Option, Some, None, Bool, false, ◌||◌, if◌then◌else◌, ◌==◌, slice_get}
use Rattle.rv_trace.specs.declared.row.Cell.{Cell}
use Rattle.rv_trace.specs.Trace.{has_serial}
use Rattle.rv_watch.specs.declared.seen.Seen.{Seen}

abbrev pub spawns_of : Option Seen → Bool
spawns_of None = false
spawns_of (Some entry) = entry.spawns

-- the cell has the serial behind so many
abbrev pub is_next : Option Cell → ℕ → Bool
is_next None count = false
is_next (Some c) count = c.serial == count

abbrev pub new_entry : Bool → Seen
new_entry asked = record { flushed = false; spawns = asked }

-- with an entry for the cell of stage 0, where it is new
abbrev pub with_first : List Seen → Option Cell → Bool → List Seen
with_first seen first asked = if is_next first (length seen) then seen ++ new_entry asked ∷ [] else seen

-- the same entries, of which those of these serials are flushed too
pub record AreMarked (marks : List (Option ℕ)) (before after : List Seen) : Type 0 where
  pub count : length after ≡ length before
  pub each : (s : ℕ) (entry : Seen) → slice_get after s ≡ Some entry →
      (was : Seen) × (slice_get before s ≡ Some was) × (entry.flushed ≡ (has_serial marks s || was.flushed)) × (entry.spawns ≡ was.spawns)
