-- What is known of a row beside the row itself (this project's choice). `row` is the row that is judged, `earlier` are those before it.
use Rattle.std.specs.List.{Contains}
use Rattle.std.specs.Prelude.{◌≡◌, ℕ, suc, ◌<◌, List, [], ◌∷◌, map, reverse, Option, Some, None, Bool, true, false, is_some, slice_get}
use Rattle.ix_plan.specs.Units.{Slots, frozen_with, unit_written}
use Rattle.rv_asks.specs.declared.asks.Asks.{Asks}
use Rattle.rv_seq.specs.declared.answer.StepAnswer.{StepAnswer}
use Rattle.rv_seq.specs.declared.answer.StepAnswer.TheVariants.{Done, Stopped}
use Rattle.rv_seq.specs.declared.commit.Stop.{Stop}
use Rattle.rv_trace.specs.declared.row.Cell.{Cell}
use Rattle.rv_trace.specs.declared.row.Hold.{Hold}
use Rattle.rv_trace.specs.declared.row.Row.{Row}
use Rattle.ix_plan.specs.declared.design.Target.{Target}
use Rattle.rv_trace.specs.Trace.{place, is_flushed, is_retired}
use Rattle.rv_waits.specs.Waits.{wait_at}
use Rattle.rv_lawful.specs.Settings.{Setting, Stands, accesses_before, stood, tailed}
use Rattle.rv_lawful.specs.Outstanding.{Decoupled, has_target, serial_written, units_after, is_written, outstanding}
use Rattle.rv_lawful.specs.LawfulTrace.{serial_in, fetch_address, next_serial, plain_fetch, IsWordOf}
use Rattle.rv_rows.specs.Kinds.{upper, unit_marked, OwnMarked}
use Rattle.rv_rows.specs.declared.known.Known.{Known}
use Rattle.rv_rows.specs.declared.known.Owed.{Owed}

abbrev pub stop_in : StepAnswer → Option Stop
stop_in (Done c) = None
stop_in (Stopped stop) = Some stop

-- what the instruction of a cell asks for
abbrev pub asks_of : Setting → Option Cell → Option Asks
asks_of k None = None
asks_of k (Some c) = Some (k.asks c.word)

-- the serials fall
abbrev pub Falling : List Decoupled → Type 0
Falling [] = Unit {0}
Falling (d ∷ []) = Unit {0}
Falling (d ∷ e ∷ older) = (e.0 < d.0) × Falling (e ∷ older)

abbrev pub owed_of : Setting → Decoupled → Owed
owed_of k d = record { serial = d.0; asks = k.asks d.1 }

-- this is known before the row is looked at
pub record IsReady (k : Setting) (earlier : List Row) (known : Known) : Type 0 where
  pub granted : known.granted ≡ serial_in (unit_written (units_after k earlier))
  pub fetch : known.fetch ≡ fetch_address k earlier
  pub next : known.next ≡ next_serial k earlier

-- this is known of the row
pub record IsKnown (k : Setting) (earlier : List Row) (row : Row) (known : Known) : Type 0 where
  pub asks : (stage : ℕ) (c : Cell) → Stands k row stage c → slice_get known.asks stage ≡ Some (Some (k.asks c.word))
  pub stop : (c : Cell) → Stands k row k.shape.ex c → known.stop ≡ stop_in (k.course.answer (place (row ∷ earlier) c.serial))
  pub behind_execute : (c : Cell) → Stands k row k.shape.ex c → known.behind_execute ≡ k.course.pc (suc (place (row ∷ earlier) c.serial))
  pub behind_last : (stage : ℕ) (c : Cell) → suc stage ≡ k.shape.stages → Stands k row stage c → known.behind_last ≡ k.course.pc (suc (place (row ∷ earlier) c.serial))
  pub accesses : (c : Cell) → Stands k row k.shape.mem c → known.accesses ≡ k.course.accesses (place (row ∷ earlier) c.serial)
  pub wait : (c : Cell) → Stands k row k.shape.mem c → known.wait ≡ wait_at k.waits (accesses_before k.course (place (row ∷ earlier) c.serial))
  pub stood : (c : Cell) → Stands k row k.shape.mem c → known.stood ≡ stood k earlier c.serial
  pub tailed : (stage : ℕ) (c : Cell) → suc stage ≡ k.shape.stages → Stands k row stage c → known.tailed ≡ tailed k earlier c.serial
  pub frozen : (stage : ℕ) (c : Cell) (u : ℕ) (slots : Slots) → suc stage ≡ k.shape.stages → Stands k row stage c → (k.asks c.word).unit ≡ Some u → slice_get (units_after k earlier) u ≡ Some slots →
      known.frozen ≡ frozen_with u slots (unit_marked (units_after k earlier) (serial_written row.written))
  pub port : (j : ℕ) → serial_written row.written ≡ Some j →
      (known.port ≡ true → (word : ℕ) × IsWordOf k (upper row ∷ earlier) j word × (is_some (k.asks word).spawned ≡ true))
      × ((word : ℕ) → IsWordOf k (upper row ∷ earlier) j word → is_some (k.asks word).spawned ≡ true → known.port ≡ true)
  pub ready : IsReady k earlier known
  pub plain : known.plain ≡ plain_fetch k earlier (fetch_address k earlier) row
  pub settled : (known.settled ≡ true → outstanding k (row ∷ earlier) ≡ []) × (outstanding k (row ∷ earlier) ≡ [] → known.settled ≡ true)

-- a hold of its own is true of the cell of EX, as the row says which unit is written
pub record IsHeld (k : Setting) (earlier : List Row) (row : Row) (held : Bool) : Type 0 where
  pub shown : (c : Cell) → Stands k row k.shape.ex c → held ≡ true → (h : Hold) × OwnMarked k earlier row k.shape.ex c h
  pub known : (c : Cell) (h : Hold) → Stands k row k.shape.ex c → OwnMarked k earlier row k.shape.ex c h → held ≡ true

-- and this is outstanding before it, the oldest first
abbrev pub AreOwed : Setting → List Row → List Owed → Type 0
AreOwed k earlier owed = owed ≡ map (owed_of k) (reverse (outstanding k earlier))

-- what is outstanding is what was retired, has a unit and is not written; the instruction of a unit has one of the units, and a `spawn` body stands in a unit
pub record IsOwing (k : Setting) (earlier : List Row) : Type 0 where
  pub owed : (j word : ℕ) → is_retired earlier j ≡ true → is_flushed earlier j ≡ false → IsWordOf k earlier j word → is_some (k.asks word).unit ≡ true → is_written earlier j ≡ false →
      Contains (outstanding k earlier) (j, word)
  pub retired : (j word : ℕ) → Contains (outstanding k earlier) (j, word) → is_retired earlier j ≡ true
  pub unflushed : (j word : ℕ) → Contains (outstanding k earlier) (j, word) → is_flushed earlier j ≡ false
  pub worded : (j word : ℕ) → Contains (outstanding k earlier) (j, word) → IsWordOf k earlier j word
  pub unwritten : (j word : ℕ) → Contains (outstanding k earlier) (j, word) → is_written earlier j ≡ false
  pub decoupled : (j word : ℕ) → Contains (outstanding k earlier) (j, word) → is_some (k.asks word).unit ≡ true
  -- each of them has a lower serial than those that retired later
  pub ordered : Falling (outstanding k earlier)
  pub units : (word u : ℕ) → (k.asks word).unit ≡ Some u → (slots : Slots) × (slice_get (units_after k earlier) u ≡ Some slots)
  pub spawning : (word : ℕ) (t : Target) → has_target (k.asks word) t ≡ true → is_some (k.asks word).unit ≡ true
  -- what was not retired was not written
  pub written : (j : ℕ) → is_written earlier j ≡ true → is_retired earlier j ≡ true
