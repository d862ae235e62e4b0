-- What is kept of each serial that was fetched (this project's choice).
use Rattle.std.specs.Prelude.{◌≡◌, ℕ, List, length, Some, is_some, slice_get}
use Rattle.rv_trace.specs.declared.row.Row.{Row}
use Rattle.rv_trace.specs.Trace.{is_flushed}
use Rattle.rv_lawful.specs.Settings.{Setting}
use Rattle.rv_lawful.specs.LawfulTrace.{IsWordOf, next_serial}
use Rattle.rv_watch.specs.declared.seen.Seen.{Seen}

-- one entry a serial: whether it was flushed in these rows, and whether its `spawn` body writes an x register
pub record AreSeen (k : Setting) (rows : List Row) (seen : List Seen) : Type 0 where
  pub count : length seen ≡ next_serial k rows
  pub flushed : (s : ℕ) (one : Seen) → slice_get seen s ≡ Some one → one.flushed ≡ is_flushed rows s
  pub spawns : (s word : ℕ) (one : Seen) → slice_get seen s ≡ Some one → IsWordOf k rows s word → one.spawns ≡ is_some (k.asks word).spawned
  pub worded : (s : ℕ) (one : Seen) → slice_get seen s ≡ Some one → (word : ℕ) × IsWordOf k rows s word
