-- What an audit asks of a row, kind by kind, by the row's own marks (this project's choice): all kinds together are the lawful row behind rows that go on. `row` is the row that is
-- judged, `earlier` are those before it.
use Rattle.std.specs.Prelude.{◌≡◌, ◌≢◌, ℕ, zero, suc, ◌+◌, ◌<◌, List, [], ◌∷◌, Option, Some, None, Bool, true, false, ◌==◌, if◌then◌else◌, is_some, slice_get, ◌⊎◌}
use Rattle.ix_plan.specs.Units.{Slots, finished, frozen_with}
use Rattle.rv_seq.specs.declared.commit.Commit.{Commit}
use Rattle.rv_seq.specs.declared.commit.Stop.{Stop}
use Rattle.rv_seq.specs.declared.commit.Stop.TheVariants.{Ecall, Ebreak, Illegal, Fetch, Misaligned, DataRange, Target as target_stop}
use Rattle.rv_trace.specs.declared.row.Cell.{Cell}
use Rattle.rv_trace.specs.declared.row.Row.{Row}
use Rattle.rv_trace.specs.declared.row.Hold.{Hold}
use Rattle.rv_trace.specs.declared.row.Hold.TheVariants.{UnitFull, Behind}
use Rattle.rv_trace.specs.Trace.{has_serial, newest, retirements}
use Rattle.rv_trace.specs.TraceText.{retired_text, written_text}
use Rattle.rv_trace.specs.RowParts.{Name, name_of, names_of, stays, leaves, front, ComesFirst}
use Rattle.rv_lawful.specs.Settings.{Setting, stages_of, Stands}
use Rattle.rv_lawful.specs.Outstanding.{Written, is_serial, serial_written, units_after}
use Rattle.rv_lawful.specs.Headline.{IsRecord, IsSpawnWrite}
use Rattle.rv_lawful.specs.LawfulTrace.{plain_fetch, fetch_address, new_cell, Retires, IsDueToStop, OwnHold, IsSettlingStage, successor, IsNextYounger, HasNoYounger, StopsRightly, WritesUnit}
use Rattle.rv_rows.specs.Facts.{MoveAbove}
use Rattle.rv_shown.specs.Shown.{Shown}
use Rattle.rv_rows.specs.Made.{row_of}

-- Marks

-- a stop that a cell makes: any but Fetch
abbrev pub is_of_cell : Option Stop → Bool
is_of_cell None = false
is_of_cell (Some Ecall) = true
is_of_cell (Some Ebreak) = true
is_of_cell (Some Illegal) = true
is_of_cell (Some Fetch) = false
is_of_cell (Some Misaligned) = true
is_of_cell (Some DataRange) = true
is_of_cell (Some target_stop) = true

-- the row says that what stands in this stage stops the run: it is EX, and the row has such a stop
abbrev pub IsStopped : Setting → Row → ℕ → Type 0
IsStopped k row stage = (stage ≡ k.shape.ex) × (is_of_cell row.stop ≡ true)

-- Moves

-- these cells with another one in the stage
abbrev pub with_cell : ℕ → Option Cell → List (Option Cell) → List (Option Cell)
with_cell stage c [] = []
with_cell zero c (was ∷ rest) = c ∷ rest
with_cell (suc stage) c (was ∷ rest) = was ∷ with_cell stage c rest

-- a cell that is held
abbrev pub kept_back : Option (Option Cell) → Option Cell
kept_back None = None
kept_back (Some None) = None
kept_back (Some (Some c)) = Some (record { serial = c.serial; at = c.at; word = c.word; hold = Some Behind })

-- the row with another cell in EX
abbrev pub with_execute : Setting → Option Cell → Row → Row
with_execute k c row =
    record {
      cells = with_cell k.shape.ex c row.cells;
      retired = row.retired;
      written = row.written;
      flushed = row.flushed;
      redirect = row.redirect;
      taken = row.taken;
      stop = row.stop;
    }

-- how a row goes on: as it stands; behind a cell that stopped the run, which is gone or stays
abbrev pub GoesOnAs : Setting → Row → Row → Type 0
GoesOnAs k row like =
    ((is_of_cell row.stop ≡ false) × (like ≡ row))
    ⊎ ((is_of_cell row.stop ≡ true) × ((like ≡ with_execute k None row) ⊎ (like ≡ with_execute k (kept_back (slice_get (stages_of k row) k.shape.ex)) row)))

-- one thing: a flushed cell, and one that stops the run, shows no hold, and no cell is both
pub record DoesOne (k : Setting) (row : Row) (stage : ℕ) (c : Cell) : Type 0 where
  pub flushed : has_serial row.flushed c.serial ≡ true → c.hold ≡ None
  pub stopped : IsStopped k row stage → c.hold ≡ None
  pub apart : has_serial row.flushed c.serial ≡ true → IsStopped k row stage → ⊥

pub record MovesRightly (k : Setting) (earlier : List Row) (row : Row) : Type 0 where
  -- above stage 0 each cell stands where the row before puts it
  pub above : (like : Row) × GoesOnAs k (newest earlier) like × MoveAbove like (stages_of k like) (names_of (stages_of k row))
  -- stage 0 keeps a held cell
  pub kept : (n : Name) → stays (newest earlier) (front (stages_of k (newest earlier))) ≡ Some n → name_of (front (stages_of k row)) ≡ Some n
  -- and no other cell of the row before comes there
  pub new : (stage : ℕ) (c d : Cell) → Stands k row 0 c → Stands k (newest earlier) stage d → d.serial ≡ c.serial → (stage ≡ 0) × (is_some (stays (newest earlier) (Some d)) ≡ true)
  pub one : (stage : ℕ) (c : Cell) → Stands k row stage c → DoesOne k row stage c
  pub retires : (stage : ℕ) → suc stage ≡ k.shape.stages → Retires k row stage

-- Hold

-- the row without what stands in stage 0, which is judged later
abbrev pub upper : Row → Row
upper row =
    record {
      cells = with_cell 0 None row.cells;
      retired = row.retired;
      written = row.written;
      flushed = row.flushed;
      redirect = row.redirect;
      taken = row.taken;
      stop = row.stop;
    }

-- the lowest unit, from the number u on, with this serial at its last time
abbrev pub unit_from : ℕ → List Slots → ℕ → Option (ℕ × ℕ)
unit_from u [] s = None
unit_from u (unit ∷ units) s = if is_serial (finished unit) s then Some (u, s) else unit_from (u + 1) units s

-- the unit that the row says is written
abbrev pub unit_marked : List Slots → Option ℕ → Option (ℕ × ℕ)
unit_marked units None = None
unit_marked units (Some s) = unit_from 0 units s

-- the unit of the cell in the last stage is frozen in the row, as it says which unit is written
pub record WaitsForMarked (k : Setting) (earlier : List Row) (row : Row) (stage : ℕ) (c : Cell) (u : ℕ) : Type 0 where
  pub last : suc stage ≡ k.shape.stages
  pub enters : (k.asks c.word).unit ≡ Some u
  pub frozen : (slots : Slots) × (slice_get (units_after k earlier) u ≡ Some slots) × (frozen_with u slots (unit_marked (units_after k earlier) (serial_written row.written)) ≡ true)

-- a hold of the cell's own is true of it, as the row says which unit is written
abbrev pub OwnMarked : Setting → List Row → Row → ℕ → Cell → Hold → Type 0
OwnMarked k earlier row stage c (UnitFull u) = WaitsForMarked k earlier row stage c u
OwnMarked k earlier row stage c h = OwnHold k earlier (upper row) stage c h

-- Behind: the next stage has a cell that shows a hold, or that stops the run as the row says
abbrev pub BehindMarked : Setting → Row → ℕ → Type 0
BehindMarked k row stage = (d : Cell) × Stands k row (suc stage) d × ((is_some d.hold ≡ true) ⊎ IsStopped k row (suc stage))

abbrev pub TrueMarked : Setting → List Row → Row → ℕ → Cell → Hold → Type 0
TrueMarked k earlier row stage c h = OwnMarked k earlier row stage c h ⊎ ((h ≡ Behind) × BehindMarked k row stage)

-- the cell shows the first true hold, and none where no hold is true
pub record ShowsMarked (k : Setting) (earlier : List Row) (row : Row) (stage : ℕ) (c : Cell) : Type 0 where
  pub shown : (h : Hold) → c.hold ≡ Some h → TrueMarked k earlier row stage c h
  pub shown_first : (h g : Hold) → c.hold ≡ Some h → TrueMarked k earlier row stage c g → ComesFirst h g
  pub free : c.hold ≡ None → (h : Hold) → TrueMarked k earlier row stage c h → ⊥

-- so does each cell that is not flushed and does not stop the run
abbrev pub HoldsRightly : Setting → List Row → Row → Type 0
HoldsRightly k earlier row =
    (stage : ℕ) (c : Cell) → Stands k row stage c → has_serial row.flushed c.serial ≡ false → (IsStopped k row stage → ⊥) → ShowsMarked k earlier row stage c

-- Fetch

-- stage 0 has what is fetched, where it keeps no cell
abbrev pub FetchesRightly : Setting → List Row → Row → Type 0
FetchesRightly k earlier row = stays (newest earlier) (front (stages_of k (newest earlier))) ≡ None → name_of (front (stages_of k row)) ≡ new_cell k earlier

-- Successor

-- the cell settles its successor: it leaves that stage, does not stop the run as the row says, and is not due to
pub record SettlesMarked (k : Setting) (earlier : List Row) (row : Row) (stage : ℕ) (c : Cell) : Type 0 where
  pub settling : IsSettlingStage k (k.asks c.word).late stage
  pub leaves : leaves row (Some c) ≡ name_of (Some c)
  pub unstopped : IsStopped k row stage → ⊥
  pub runs : stage ≡ k.shape.ex → (stop : Stop) → IsDueToStop k (row ∷ earlier) c stop → ⊥

-- the cell settles, and the next younger cell has another address than its successor
pub record IsMarkedMismatch (k : Setting) (earlier : List Row) (row : Row) (stage : ℕ) (c : Cell) : Type 0 where
  pub stands : Stands k row stage c
  pub settles : SettlesMarked k earlier row stage c
  pub differs : (below : ℕ) × (d : Cell) × IsNextYounger k row stage below d × (d.at ≢ successor k (row ∷ earlier) c)

pub record SucceedsRightly (k : Setting) (earlier : List Row) (row : Row) : Type 0 where
  -- a mismatch flushes all younger cells and names the successor
  pub flushes : (stage : ℕ) (c : Cell) → IsMarkedMismatch k earlier row stage c → (below : ℕ) (d : Cell) → below < stage → Stands k row below d → has_serial row.flushed d.serial ≡ true
  pub named : (stage : ℕ) (c : Cell) → IsMarkedMismatch k earlier row stage c → row.redirect ≡ Some (successor k (row ∷ earlier) c)
  -- with no younger cell the successor is named where the plain fetch address is another
  pub alone : (stage : ℕ) (c : Cell) → Stands k row stage c → SettlesMarked k earlier row stage c → HasNoYounger k row stage
      → row.redirect ≡ (if successor k (row ∷ earlier) c == plain_fetch k earlier (fetch_address k earlier) row then None else Some (successor k (row ∷ earlier) c))
  -- no other cell is flushed
  pub flushed_only : (s : ℕ) → has_serial row.flushed s ≡ true
      → (stage : ℕ) × (c : Cell) × (below : ℕ) × (d : Cell) × IsMarkedMismatch k earlier row stage c × (below < stage) × Stands k row below d × (d.serial ≡ s)
  -- and no other address is named
  pub named_only : (a : ℕ) → row.redirect ≡ Some a
      → (stage : ℕ) × (c : Cell) × Stands k row stage c × SettlesMarked k earlier row stage c × (successor k (row ∷ earlier) c ≡ a)
      × (IsMarkedMismatch k earlier row stage c ⊎ HasNoYounger k row stage)

-- Stop

-- the row has a stop exactly where it is due, and stands behind none
pub record StopsInPlace (k : Setting) (earlier : List Row) (row : Row) : Type 0 where
  pub stops : StopsRightly k earlier row
  pub going : (newest earlier).stop ≡ None

-- Commit and Write

-- what retires is the next record of the run, and its line is that of the record
pub record RetiresRightly (k : Setting) (earlier : List Row) (s : Shown) : Type 0 where
  pub record_is : (serial : ℕ) (c : Commit) → (row_of k earlier s).retired ≡ Some (serial, c) → IsRecord k (retirements earlier) c
  pub line : s.retired_line ≡ retired_text (row_of k earlier s).retired

-- what is written is what the run writes at the place of the serial, and its line is that of these writes
pub record WritesRightly (k : Setting) (earlier : List Row) (s : Shown) : Type 0 where
  pub write_is : (w : Written) → (row_of k earlier s).written ≡ Some w → IsSpawnWrite k earlier w
  pub line : s.written_line ≡ written_text (row_of k earlier s).written

-- Kinds

-- in the order in which they are judged
pub data Kind : Type 0 where
  of_moves : Kind
  of_hold : Kind
  of_fetch : Kind
  of_successor : Kind
  of_unit : Kind
  of_stop : Kind
  of_commit : Kind
  of_write : Kind

-- what a text shows of a row is right in this respect, behind these rows, whether one of them stops or not
abbrev pub IsRight : Setting → List Row → Shown → Kind → Type 0
IsRight k earlier s of_moves = MovesRightly k earlier (row_of k earlier s)
IsRight k earlier s of_hold = HoldsRightly k earlier (row_of k earlier s)
IsRight k earlier s of_fetch = FetchesRightly k earlier (row_of k earlier s)
IsRight k earlier s of_successor = SucceedsRightly k earlier (row_of k earlier s)
IsRight k earlier s of_unit = WritesUnit k earlier (row_of k earlier s)
IsRight k earlier s of_stop = StopsInPlace k earlier (row_of k earlier s)
IsRight k earlier s of_commit = RetiresRightly k earlier s
IsRight k earlier s of_write = WritesRightly k earlier s

-- a row is right in each respect in which it can be judged without the lines of its writes
pub record RowKinds (k : Setting) (earlier : List Row) (row : Row) : Type 0 where
  pub moves : MovesRightly k earlier row
  pub holds : HoldsRightly k earlier row
  pub fetches : FetchesRightly k earlier row
  pub succeeds : SucceedsRightly k earlier row
  pub units : WritesUnit k earlier row
  pub stops : StopsInPlace k earlier row

-- what a text shows is right in each respect
abbrev pub IsAllRight : Setting → List Row → Shown → Type 0
IsAllRight k earlier s = (kind : Kind) → IsRight k earlier s kind
