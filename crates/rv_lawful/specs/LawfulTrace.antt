-- Which rows of a pipeline with an extension are lawful after the earlier ones (this project's choice). `row` is the row that is judged, `earlier` are those before it.
use Rattle.std.specs.Prelude.{◌≡◌, ◌≢◌, ℕ, suc, drop, replicate, ◌+◌, ◌-◌, ◌<◌, ◌≤◌, List, [], ◌∷◌, get_or, Option, Some, None, Bool, true, false, ◌&&◌, ◌||◌, not, if◌then◌else◌, ◌==◌, is_some, slice_get, ◌⊎◌}
use Rattle.rv_trace.specs.declared.row.Cell.{Cell}
use Rattle.rv_trace.specs.declared.row.Row.{Row}
use Rattle.rv_trace.specs.declared.row.Hold.{Hold}
use Rattle.rv_trace.specs.declared.row.Hold.TheVariants.{Operand, Board, Custom, Late, Trap, Drain, Wait, StoreAhead, Tail, UnitFull, Port, Behind}
use Rattle.rv_seq.specs.declared.commit.Commit.{Commit}
use Rattle.rv_seq.specs.declared.commit.Stop.{Stop}
use Rattle.rv_seq.specs.declared.commit.Stop.TheVariants.{Fetch}
use Rattle.rv_seq.specs.declared.answer.StepAnswer.TheVariants.{Stopped}
use Rattle.rv_seq.specs.Steps.{word_at}
use Rattle.ix_plan.specs.declared.design.Target.{Target}
use Rattle.ix_plan.specs.Units.{Slots, unit_written, frozen_with}
use Rattle.rv_asks.specs.declared.asks.Asks.{Asks}
use Rattle.rv_waits.specs.Waits.{wait_at}
use Rattle.rv_trace.specs.Trace.{has_serial, is_retired, place, newest}
use Rattle.rv_trace.specs.RowParts.{Name, name_of, names_of, stays, leaves, front, unless, serial_after, fetched, comes, MovesInto, IsOlder, ComesFirst, given, in_five, AscendFrom}
use Rattle.rv_core.specs.Guesses.{guess_of}
use Rattle.rv_lawful.specs.Future.{future_file}
use Rattle.rv_lawful.specs.Settings.{Setting, accesses_before, stages_of, Stands, stood, tailed}
use Rattle.rv_lawful.specs.Entering.{places, is_interrupted, IsGone, TakesRightly}
use Rattle.rv_lawful.specs.Outstanding.{has_target, touches, serial_written, units_after, is_written, outstanding}

-- Moves and fetch

-- the guess of the address behind what is fetched, after these rows: on a core that predicts the address to which the always-blocks jump there with the future file,
-- if they jump, else that of the next word
abbrev pub guess_after : Setting → List Row → Name → ℕ
guess_after k earlier n = guess_of k.shape.predict (k.jump (future_file k earlier) n.1 n.2) n.1

-- the guess behind what leaves stage 0 in the row after these, where something does
abbrev pub guessed : Setting → List Row → ℕ → Option Name → ℕ
guessed k earlier before None = before
guessed k earlier before (Some n) = guess_after k earlier n

-- the next fetch address where the row names none: the guess behind the cell of stage 0 where that moves
abbrev pub plain_fetch : Setting → List Row → ℕ → Row → ℕ
plain_fetch k earlier before row = guessed k earlier before (leaves row (front (stages_of k row)))

-- the fetch address after these rows: 0 at first, then the address that the row names, or else the plain one
unfoldable pub fetch_address : Setting → List Row → ℕ
fetch_address k [] = 0
fetch_address k (row ∷ earlier) = unless row.redirect (plain_fetch k earlier (fetch_address k earlier) row)

-- the serial of the next fetch: serials count the fetches, and the last one stands in stage 0 first
unfoldable pub next_serial : Setting → List Row → ℕ
next_serial k [] = 0
next_serial k (row ∷ earlier) = serial_after (next_serial k earlier) (front (stages_of k row))

-- what is fetched after these rows where stage 0 is free: the image's word at the fetch address, if there is one
abbrev pub new_cell : Setting → List Row → Option Name
new_cell k earlier = fetched (next_serial k earlier) (fetch_address k earlier) (word_at k.image (fetch_address k earlier))

-- each cell stands where the row before puts it, and stage 0 has its held cell, or what is fetched
abbrev pub Moves : Setting → List Row → Row → Type 0
Moves k earlier row =
    MovesInto (newest earlier) (comes (stays (newest earlier) (front (stages_of k (newest earlier)))) (new_cell k earlier))
    (stages_of k (newest earlier)) (names_of (stages_of k row))

-- the cell of the last stage retires where it leaves, and nothing else does
pub record Retires (k : Setting) (row : Row) (stage : ℕ) : Type 0 where
  pub leaver : (s : ℕ) (commit : Commit) → row.retired ≡ Some (s, commit) → (c : Cell) × Stands k row stage c × (leaves row (Some c) ≡ name_of (Some c)) × (c.serial ≡ s)
  pub retired : (c : Cell) → Stands k row stage c → leaves row (Some c) ≡ name_of (Some c) → (commit : Commit) × (row.retired ≡ Some (c.serial, commit))

-- True holds

-- a row of these has a cell of this serial with this word
abbrev pub IsWordOf : Setting → List Row → ℕ → ℕ → Type 0
IsWordOf k [] s word = ⊥
IsWordOf k (row ∷ earlier) s word =
    ((stage : ℕ) × (c : Cell) × Stands k row stage c × (c.serial ≡ s) × (c.word ≡ word)) ⊎ IsWordOf k earlier s word

-- the cell is due to stop: the step at its place in the run is this stop
abbrev pub IsDueToStop : Setting → List Row → Cell → Stop → Type 0
IsDueToStop k rows c stop = k.course.answer (place rows c.serial) ≡ Stopped stop

-- is the register read? Reads of x0 do not count
abbrev pub reads_of : Asks → ℕ → Bool
reads_of a r = not (r == 0) && ((r == a.first) || (r == a.second))

-- Operand: at RD the cell reads x register r, and an older cell, not retired in an earlier row, has r as target; on a core that forwards the time of that write is not below
-- the stage in which the older cell stands
pub record WaitsForOperand (k : Setting) (earlier : List Row) (row : Row) (stage : ℕ) (c : Cell) (r j : ℕ) : Type 0 where
  pub reading : stage ≡ k.shape.rd
  pub reads : reads_of (k.asks c.word) r ≡ true
  pub older : IsOlder (row ∷ earlier) c.serial j
  pub unretired : is_retired earlier j ≡ false
  pub writes : (word : ℕ) × IsWordOf k (row ∷ earlier) j word × ((k.asks word).destination ≡ r)
  pub withheld : k.shape.forward ≡ true → (at : ℕ) × (d : Cell) × Stands k row at d × (d.serial ≡ j) × (at ≤ (k.asks d.word).x_time)

-- Custom: at EX the cell or an always-block reads or writes custom register r, and an older cell, not retired in an earlier row, writes r at a time above EX
pub record WaitsForCustom (k : Setting) (earlier : List Row) (row : Row) (stage : ℕ) (c : Cell) (r j : ℕ) : Type 0 where
  pub executing : stage ≡ k.shape.ex
  pub uses : get_or (k.asks c.word).customs r false ≡ true
  pub older : IsOlder (row ∷ earlier) c.serial j
  pub unretired : is_retired earlier j ≡ false
  pub writes : (word : ℕ) × IsWordOf k (row ∷ earlier) j word × (get_or (k.asks word).late_customs r false ≡ true)

-- Late: at EX, an older cell, not retired in an earlier row, writes the pc at a time above EX
pub record WaitsForJump (k : Setting) (earlier : List Row) (row : Row) (stage : ℕ) (c : Cell) (j : ℕ) : Type 0 where
  pub executing : stage ≡ k.shape.ex
  pub older : IsOlder (row ∷ earlier) c.serial j
  pub unretired : is_retired earlier j ≡ false
  pub jumps : (word : ℕ) × IsWordOf k (row ∷ earlier) j word × ((k.asks word).late ≡ true)

-- Board: at RD the cell reads or writes a register that is a spawn target of an older cell, which is not written in an earlier row
pub record WaitsForWrite (k : Setting) (earlier : List Row) (row : Row) (stage : ℕ) (c : Cell) (t : Target) (j : ℕ) : Type 0 where
  pub reading : stage ≡ k.shape.rd
  pub touches : touches (k.asks c.word) t ≡ true
  pub older : IsOlder (row ∷ earlier) c.serial j
  pub unwritten : is_written earlier j ≡ false
  pub spawns : (word : ℕ) × IsWordOf k (row ∷ earlier) j word × (has_target (k.asks word) t ≡ true)

-- an instruction of this serial has a unit, and is not written by the end of these rows
pub record IsUnwritten (k : Setting) (rows : List Row) (j : ℕ) : Type 0 where
  pub decoupled : (word : ℕ) × IsWordOf k rows j word × (is_some (k.asks word).unit ≡ true)
  pub unwritten : is_written rows j ≡ false

-- Trap: at EX, in this row an interrupt is to be taken
pub record WaitsForEntry (k : Setting) (earlier : List Row) (stage : ℕ) : Type 0 where
  pub executing : stage ≡ k.shape.ex
  pub interrupted : is_interrupted k earlier ≡ true

-- Drain: at EX the cell is due to stop, and an older cell is not retired by the end of this row, or its spawn writes are not written by then
pub record WaitsToDrain (k : Setting) (earlier : List Row) (row : Row) (stage : ℕ) (c : Cell) (j : ℕ) : Type 0 where
  pub executing : stage ≡ k.shape.ex
  pub due : (stop : Stop) × IsDueToStop k (row ∷ earlier) c stop
  pub older : IsOlder (row ∷ earlier) c.serial j
  pub left : (is_retired (row ∷ earlier) j ≡ false) ⊎ IsUnwritten k (row ∷ earlier) j

-- Wait: at MEM the cell accesses the memory, and has stood there for fewer rows than this access waits
pub record WaitsForMemory (k : Setting) (earlier : List Row) (row : Row) (stage : ℕ) (c : Cell) (left : ℕ) : Type 0 where
  pub waiting : stage ≡ k.shape.mem
  pub accesses : k.course.accesses (place (row ∷ earlier) c.serial) ≡ true
  pub still : left + stood k earlier c.serial ≡ wait_at k.waits (accesses_before k.course (place (row ∷ earlier) c.serial))
  pub some : 0 < left

-- StoreAhead: at MEM the cell loads, and an older store stands in a later stage
pub record WaitsForStore (k : Setting) (earlier : List Row) (row : Row) (stage : ℕ) (c : Cell) (j : ℕ) : Type 0 where
  pub loading : stage ≡ k.shape.mem
  pub loads : (k.asks c.word).loads ≡ true
  pub older : IsOlder (row ∷ earlier) c.serial j
  pub stands : (later : ℕ) × (d : Cell) × (stage < later) × Stands k row later d × (d.serial ≡ j) × ((k.asks d.word).stores ≡ true)

-- Tail: in the last stage the cell's module is not done: it goes on for so many cycles past the entry, less those for which the cell was held for it
pub record WaitsForModule (k : Setting) (earlier : List Row) (row : Row) (stage : ℕ) (c : Cell) (left : ℕ) : Type 0 where
  pub last : suc stage ≡ k.shape.stages
  pub still : left + tailed k earlier c.serial ≡ (k.asks c.word).tail
  pub some : 0 < left

-- UnitFull: in the last stage the cell's unit is frozen in this row
pub record WaitsForUnit (k : Setting) (earlier : List Row) (row : Row) (stage : ℕ) (c : Cell) (u : ℕ) : Type 0 where
  pub last : suc stage ≡ k.shape.stages
  pub enters : (k.asks c.word).unit ≡ Some u
  pub frozen : (slots : Slots) × (slice_get (units_after k earlier) u ≡ Some slots) × (frozen_with u slots (unit_written (units_after k earlier)) ≡ true)

-- Port: in the last stage the cell writes an x register in its own body, and j, which has one as spawn target, is written in this row
pub record WaitsForPort (k : Setting) (earlier : List Row) (row : Row) (stage : ℕ) (c : Cell) (j : ℕ) : Type 0 where
  pub last : suc stage ≡ k.shape.stages
  pub writes : ((k.asks c.word).destination == 0) ≡ false
  pub taken : serial_written row.written ≡ Some j
  pub spawns : (word : ℕ) × IsWordOf k (row ∷ earlier) j word × (is_some (k.asks word).spawned ≡ true)

-- a hold of the cell's own is true of it
abbrev pub OwnHold : Setting → List Row → Row → ℕ → Cell → Hold → Type 0
OwnHold k earlier row stage c (Operand r j) = WaitsForOperand k earlier row stage c r j
OwnHold k earlier row stage c (Drain j) = WaitsToDrain k earlier row stage c j
OwnHold k earlier row stage c (Board t j) = WaitsForWrite k earlier row stage c t j
OwnHold k earlier row stage c (Custom r j) = WaitsForCustom k earlier row stage c r j
OwnHold k earlier row stage c (Late j) = WaitsForJump k earlier row stage c j
OwnHold k earlier row stage c Trap = WaitsForEntry k earlier stage
OwnHold k earlier row stage c (Wait left) = WaitsForMemory k earlier row stage c left
OwnHold k earlier row stage c (StoreAhead j) = WaitsForStore k earlier row stage c j
OwnHold k earlier row stage c (Tail left) = WaitsForModule k earlier row stage c left
OwnHold k earlier row stage c (UnitFull u) = WaitsForUnit k earlier row stage c u
OwnHold k earlier row stage c (Port j) = WaitsForPort k earlier row stage c j
OwnHold k earlier row stage c Behind = ⊥

-- the cell stops the run: at EX it is due to, and no hold of its own is true
pub record StopsRun (k : Setting) (earlier : List Row) (row : Row) (stage : ℕ) (c : Cell) (stop : Stop) : Type 0 where
  pub executing : stage ≡ k.shape.ex
  pub due : IsDueToStop k (row ∷ earlier) c stop
  pub free : (h : Hold) → OwnHold k earlier row stage c h → ⊥

-- Behind: below the last stage, the next stage has a cell that is held or stops the run
abbrev pub WaitsBehind : Setting → List Row → Row → ℕ → Type 0
WaitsBehind k earlier row stage =
    (d : Cell) × Stands k row (suc stage) d × ((is_some d.hold ≡ true) ⊎ ((stop : Stop) × StopsRun k earlier row (suc stage) d stop))

-- the hold is true of the cell
abbrev pub TrueHold : Setting → List Row → Row → ℕ → Cell → Hold → Type 0
TrueHold k earlier row stage c h = OwnHold k earlier row stage c h ⊎ ((h ≡ Behind) × WaitsBehind k earlier row stage)

-- a cell shows the first true hold, and none where it is flushed, stops the run, or no hold is true
pub record ShowsHold (k : Setting) (earlier : List Row) (row : Row) (stage : ℕ) (c : Cell) : Type 0 where
  pub flushed : has_serial row.flushed c.serial ≡ true → c.hold ≡ None
  pub stopping : (stop : Stop) → StopsRun k earlier row stage c stop → c.hold ≡ None
  pub shown : (h : Hold) → c.hold ≡ Some h → TrueHold k earlier row stage c h
  pub shown_first : (h g : Hold) → c.hold ≡ Some h → TrueHold k earlier row stage c g → ComesFirst h g
  pub free : c.hold ≡ None → has_serial row.flushed c.serial ≡ false → ((stop : Stop) → StopsRun k earlier row stage c stop → ⊥) → (h : Hold) → TrueHold k earlier row stage c h → ⊥

-- Successors

-- the stage from which a cell settles its successor: EX, or the last one where its instruction writes the pc late
abbrev pub IsSettlingStage : Setting → Bool → ℕ → Type 0
IsSettlingStage k false stage = stage ≡ k.shape.ex
IsSettlingStage k true stage = suc stage ≡ k.shape.stages

-- the cell settles its successor: it leaves that stage
pub record Settles (k : Setting) (earlier : List Row) (row : Row) (stage : ℕ) (c : Cell) : Type 0 where
  pub settling : IsSettlingStage k (k.asks c.word).late stage
  pub leaves : leaves row (Some c) ≡ name_of (Some c)
  pub runs : (stop : Stop) → StopsRun k earlier row stage c stop → ⊥

-- the address that the run takes after the cell
abbrev pub successor : Setting → List Row → Cell → ℕ
successor k rows c = k.course.pc (suc (place rows c.serial))

-- d is the next younger cell of the one in this stage
pub record IsNextYounger (k : Setting) (row : Row) (stage below : ℕ) (d : Cell) : Type 0 where
  pub lower : below < stage
  pub stands : Stands k row below d
  pub nearest : (between : ℕ) (e : Cell) → below < between → between < stage → Stands k row between e → ⊥

-- no cell is younger than the one in this stage
abbrev pub HasNoYounger : Setting → Row → ℕ → Type 0
HasNoYounger k row stage = (below : ℕ) (d : Cell) → below < stage → Stands k row below d → ⊥

-- the cell settles, and the next younger cell has another address than its successor
pub record IsMismatch (k : Setting) (earlier : List Row) (row : Row) (stage : ℕ) (c : Cell) : Type 0 where
  pub stands : Stands k row stage c
  pub settles : Settles k earlier row stage c
  pub differs : (below : ℕ) × (d : Cell) × IsNextYounger k row stage below d × (d.at ≢ successor k (row ∷ earlier) c)

-- the cell of this serial is younger than one that settles in a mismatch
abbrev pub IsFlushedByMismatch : Setting → List Row → Row → ℕ → Type 0
IsFlushedByMismatch k earlier row s =
    (stage : ℕ) × (c : Cell) × (below : ℕ) × (d : Cell) × IsMismatch k earlier row stage c × (below < stage) × Stands k row below d × (d.serial ≡ s)

-- the row takes an interrupt, and the cell of this serial stands at EX or below
abbrev pub IsFlushedByEntry : Setting → Row → ℕ → Type 0
IsFlushedByEntry k row s = (is_some row.taken ≡ true) × (stage : ℕ) × (c : Cell) × (stage ≤ k.shape.ex) × Stands k row stage c × (c.serial ≡ s)

pub record Successors (k : Setting) (earlier : List Row) (row : Row) : Type 0 where
  -- a mismatch flushes all younger cells and names the successor, where the row takes no interrupt
  pub flushes : (stage : ℕ) (c : Cell) → IsMismatch k earlier row stage c → (below : ℕ) (d : Cell) → below < stage → Stands k row below d → has_serial row.flushed d.serial ≡ true
  pub named : row.taken ≡ None → (stage : ℕ) (c : Cell) → IsMismatch k earlier row stage c → row.redirect ≡ Some (successor k (row ∷ earlier) c)
  -- with no younger cell the successor is named where the plain fetch address is another, and no interrupt is taken
  pub alone : row.taken ≡ None → (stage : ℕ) (c : Cell) → Stands k row stage c → Settles k earlier row stage c → HasNoYounger k row stage
      → row.redirect ≡ (if successor k (row ∷ earlier) c == plain_fetch k earlier (fetch_address k earlier) row then None else Some (successor k (row ∷ earlier) c))
  -- no other cell is flushed, but by an interrupt
  pub flushed_only : (s : ℕ) → has_serial row.flushed s ≡ true → IsFlushedByMismatch k earlier row s ⊎ IsFlushedByEntry k row s
  -- and no other address is named
  pub named_only : (a : ℕ) → row.taken ≡ None → row.redirect ≡ Some a
      → (stage : ℕ) × (c : Cell) × Stands k row stage c × Settles k earlier row stage c × (successor k (row ∷ earlier) c ≡ a)
      × (IsMismatch k earlier row stage c ⊎ HasNoYounger k row stage)

-- Stops

-- after the row no stage has a cell
abbrev pub IsEmptyAfter : Setting → Row → Type 0
IsEmptyAfter k row =
    (stage : ℕ) (c : Cell) → Stands k row stage c → IsGone k row stage c

-- a row has a stop exactly where a cell stops the run, or where nothing is left, nothing is outstanding and the fetch address has no word
pub record StopsRightly (k : Setting) (earlier : List Row) (row : Row) : Type 0 where
  pub cause : (stop : Stop) → row.stop ≡ Some stop
      → ((stage : ℕ) × (c : Cell) × Stands k row stage c × StopsRun k earlier row stage c stop)
      ⊎ ((stop ≡ Fetch) × IsEmptyAfter k row × (outstanding k (row ∷ earlier) ≡ []) × (word_at k.image (fetch_address k (row ∷ earlier)) ≡ None))
  pub of_cell : (stage : ℕ) (c : Cell) (stop : Stop) → Stands k row stage c → StopsRun k earlier row stage c stop → row.stop ≡ Some stop
  pub of_fetch : IsEmptyAfter k row → outstanding k (row ∷ earlier) ≡ [] → word_at k.image (fetch_address k (row ∷ earlier)) ≡ None → row.stop ≡ Some Fetch

-- Units

-- the serial of what stands in a unit
abbrev pub serial_in : Option (ℕ × ℕ) → Option ℕ
serial_in None = None
serial_in (Some entry) = Some entry.1

-- the lowest unit with a serial at its last time writes it, and no other is written
abbrev pub WritesUnit : Setting → List Row → Row → Type 0
WritesUnit k earlier row = serial_written row.written ≡ serial_in (unit_written (units_after k earlier))

-- Forms

-- the row has one form only: nothing stands behind the last stage, and the flushed serials are listed once each, the oldest first, in the first places
pub record IsInForm (k : Setting) (row : Row) : Type 0 where
  pub behind : drop k.shape.stages row.cells ≡ replicate (5 - k.shape.stages) None
  pub listed : row.flushed ≡ in_five (given row.flushed)
  pub ascending : AscendFrom None (given row.flushed)

-- the row is lawful after the earlier ones
pub record LawfulRow (k : Setting) (earlier : List Row) (row : Row) : Type 0 where
  pub form : IsInForm k row
  pub moves : Moves k earlier row
  pub retires : (stage : ℕ) → suc stage ≡ k.shape.stages → Retires k row stage
  pub holds : (stage : ℕ) (c : Cell) → Stands k row stage c → ShowsHold k earlier row stage c
  pub successors : Successors k earlier row
  pub units : WritesUnit k earlier row
  pub takes : TakesRightly k earlier row
  pub stops : StopsRightly k earlier row

-- what a trace is judged against, where the run goes to the handler at these places
abbrev pub Judging : Type 0
Judging = List ℕ → Setting

-- each row is lawful after the rows before it, where the run goes to the handler at the places that these name, and none follows a stop
abbrev pub Lawful : Judging → List Row → Type 0
Lawful by [] = Unit {0}
Lawful by (row ∷ earlier) = LawfulRow (by (places earlier)) earlier row × ((newest earlier).stop ≡ None) × Lawful by earlier
