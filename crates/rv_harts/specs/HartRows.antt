-- What a hart of a barrel has in each row, by the run of its own image (this project's choice). Its cells take every other slot of the pipeline, so none can wait: one that would have to
-- is turned. Memory never waits.
use Rattle.std.specs.Prelude.{ℕ, zero, suc, ◌+◌, ◌-◌, ◌%◌, List, [], ◌∷◌, ◌++◌, map, take, length, reverse, replicate, find, filter, slice_get, Option, Some, None, Bool, not, ◌&&◌, ◌||◌, if◌then◌else◌, ◌==◌, is_some, is_none, option_map}
use Rattle.std.specs.Option.{option_or}
use Rattle.ix_eval.specs.Tables.{table}
use Rattle.ix_plan.specs.Units.{unit_written, next_units}
use Rattle.rv_core.specs.Guesses.{next_word}
use Rattle.rv_holds.specs.Tokens.{commit_in}
use Rattle.rv_lawful.specs.LawfulTrace.{serial_in}
use Rattle.rv_lawful.specs.Outstanding.{Written, in_unit}
use Rattle.rv_lawful.specs.Settings.{Setting}
use Rattle.rv_seq.specs.declared.commit.Commit.{Commit}
use Rattle.rv_seq.specs.declared.commit.Stop.{Stop}
use Rattle.rv_seq.specs.declared.commit.Stop.TheVariants.{Fetch}
use Rattle.rv_seq.specs.Steps.{word_at}
use Rattle.rv_trace.specs.RowParts.{in_five}
use Rattle.rv_tried.specs.declared.parts.Spawned.{Spawned}
use Rattle.rv_tried.specs.Parts.{shown, spawned}
use Rattle.rv_unit.specs.Entries.{is_number}
use Rattle.rv_harts.specs.declared.event.Event.{Event}
use Rattle.rv_harts.specs.declared.event.Event.TheVariants.{Turned, Stopped, Led}
use Rattle.rv_harts.specs.declared.event.EventAt.{EventAt}
use Rattle.rv_harts.specs.declared.row.BarrelCell.{BarrelCell}
use Rattle.rv_harts.specs.declared.row.HartPart.{HartPart}
use Rattle.rv_harts.specs.declared.row.Turn.{Turn}
use Rattle.rv_harts.specs.Harts.{Fetched, Hart, first_hart}
use Rattle.rv_harts.specs.Turns.{asked}
use Rattle.rv_harts.specs.Events.{standing, event_from}

-- Slots: `h` is the hart, 0 or 1, `n` the row, and `g` what the hart has before it

-- the row is one in which the hart may fetch
abbrev pub fetches : ℕ → ℕ → Hart → Bool
fetches h n g = ((n % 2) == h) && not g.stopped

-- the row is one in which its units step: it has no cell in the last stage then
abbrev pub steps : Setting → ℕ → ℕ → Hart → Bool
steps k h n g = not (((n + (k.shape.stages - 1)) % 2) == h) && not g.stopped

-- what is fetched where there is this word; before it are those that have retired and those in the stages
abbrev pub fetched : Hart → Option ℕ → Option Fetched
fetched g None = None
fetched g (Some word) = Some (record { serial = g.next; at = g.fetch; word = word; place = g.retired + length (standing g.above) })

-- what stands in stage 0
abbrev pub entering : Setting → ℕ → ℕ → Hart → Option Fetched
entering k h n g = if fetches h n g then fetched g (word_at k.image g.fetch) else None

-- what stands in the stages, stage 0 first
abbrev pub stages_in : Setting → ℕ → ℕ → Hart → List (Option Fetched)
stages_in k h n g = entering k h n g ∷ g.above

-- Units

-- the serial that is written: that of the lowest unit with one at its last time
abbrev pub serial_out : Setting → ℕ → ℕ → Hart → Option ℕ
serial_out k h n g = if steps k h n g then serial_in (unit_written g.units) else None

-- what is not written by the end of the row, of what was not before
abbrev pub kept_in : Setting → ℕ → ℕ → Hart → List Fetched
kept_in k h n g = filter (λ (c : Fetched). not (is_number (serial_out k h n g) c.serial)) g.owed

-- the writes of a `spawn` body as those of this serial
abbrev pub written_as : ℕ → Spawned → Written
written_as serial w = (serial, w.rd_index, w.rd, w.custom)

-- what a unit writes of an instruction, as the step at its place does
abbrev pub writes_of : Setting → Fetched → Option Written
writes_of k c = option_map (λ (d : Commit). written_as c.serial (spawned (k.asks d.word) (k.course.own c.place) d)) (commit_in (k.course.answer c.place))

-- what is written of such an instruction, if there is one
abbrev pub written_of : Setting → Option Fetched → Option Written
written_of k None = None
written_of k (Some c) = writes_of k c

-- what the instruction of this serial writes, which is one of these
abbrev pub written_by : Setting → List Fetched → Option ℕ → Option Written
written_by k owed None = None
written_by k owed (Some serial) = written_of k (find (λ (c : Fetched). c.serial == serial) owed)

-- Moves

-- what the cells of a row do by which younger ones are flushed
abbrev pub event_in : Setting → ℕ → ℕ → Hart → Option EventAt
event_in k h n g = event_from k g.owed (kept_in k h n g) g.fetch 0 (stages_in k h n g)

-- how many stages, from stage 0 on, have nothing that goes on: the cell of the event goes on where it leads elsewhere
abbrev pub stages_after : ℕ → Event → ℕ
stages_after stage (Turned turn at) = suc stage
stages_after stage (Stopped stop) = suc stage
stages_after stage (Led at) = stage

-- so many of a row with this event
abbrev pub lost : Option EventAt → ℕ
lost None = 0
lost (Some e) = stages_after e.stage e.event

-- stages without what stands in the first of them, so many
abbrev pub cleared : ℕ → List (Option Fetched) → List (Option Fetched)
cleared zero stages = stages
cleared (suc n) [] = []
cleared (suc n) (s ∷ stages) = None ∷ cleared n stages

-- how many stages have younger cells, which are flushed
abbrev pub below : Option EventAt → ℕ
below None = 0
below (Some e) = e.stage

-- the serials that are flushed, the oldest first
abbrev pub flushed_in : Setting → ℕ → ℕ → Hart → List (Option ℕ)
flushed_in k h n g = in_five (reverse (map (λ (c : Fetched). c.serial) (standing (take (below (event_in k h n g)) (stages_in k h n g)))))

-- the next fetch address, where the oldest cell that names one does so: one that is turned its own, one that leads elsewhere that, and what is fetched the one behind it
abbrev pub address_after : ℕ → Option Fetched → Option Event → ℕ
address_after before new (Some (Turned turn at)) = at
address_after before new (Some (Led at)) = at
address_after before new (Some (Stopped stop)) = before
address_after before None None = before
address_after before (Some c) None = next_word c.at

-- what the cell of an event does
abbrev pub event_at : Option EventAt → Option Event
event_at e = option_map (λ (found : EventAt). found.event) e

-- the address that the row names
abbrev pub redirect_of : Option Event → Option ℕ
redirect_of None = None
redirect_of (Some (Turned turn at)) = None
redirect_of (Some (Stopped stop)) = None
redirect_of (Some (Led at)) = Some at

-- Retirements

-- what stands in the last of some stages
abbrev pub last_in : List (Option Fetched) → Option Fetched
last_in [] = None
last_in (s ∷ []) = s
last_in (s ∷ t ∷ stages) = last_in (t ∷ stages)

-- what retires
abbrev pub leaving : Setting → ℕ → ℕ → Hart → Option Fetched
leaving k h n g = last_in (stages_in k h n g)

-- the record of the step at the place of what retires, with its serial
abbrev pub retired_of : Setting → Option Fetched → Option (ℕ × Commit)
retired_of k None = None
retired_of k (Some c) = option_map (λ (d : Commit). (c.serial, shown (k.asks d.word) d)) (commit_in (k.course.answer c.place))

-- the unit that what retires enters, with its serial, where it has one
abbrev pub unit_entered : Setting → Option Fetched → Option (ℕ × ℕ)
unit_entered k None = None
unit_entered k (Some c) = in_unit c.serial (asked k c).unit

-- what retires, where its writes come later
abbrev pub owing : Setting → Option Fetched → List Fetched
owing k None = []
owing k (Some c) = if is_some (asked k c).unit then c ∷ [] else []

-- what is not written by the end of the row
abbrev pub owed_after : Setting → ℕ → ℕ → Hart → List Fetched
owed_after k h n g = kept_in k h n g ++ owing k (leaving k h n g)

-- Stops

-- the stop of a cell that stops the hart
abbrev pub stop_of : Option Event → Option Stop
stop_of None = None
stop_of (Some (Turned turn at)) = None
stop_of (Some (Stopped stop)) = Some stop
stop_of (Some (Led at)) = None

-- the row could have a fetch and has none, nothing stands in any stage, and nothing is outstanding after it
abbrev pub is_over : Setting → ℕ → ℕ → Hart → Bool
is_over k h n g = fetches h n g && is_none (entering k h n g) && (length (standing g.above) == 0) && (length (owed_after k h n g) == 0)

-- why the hart stops in the row, if it does
abbrev pub stopping : Setting → ℕ → ℕ → Hart → Option Stop
stopping k h n g = option_or (stop_of (event_at (event_in k h n g))) (if is_over k h n g then Some Fetch else None)

-- Rows

-- what the hart has before the next row; after a stop nothing stands in any stage
unfoldable pub next_hart : Setting → ℕ → ℕ → Hart → Hart
next_hart k h n g =
    record {
      above = if is_some (stopping k h n g) then replicate (k.shape.stages - 1) None else take (k.shape.stages - 1) (cleared (lost (event_in k h n g)) (stages_in k h n g));
      fetch = address_after g.fetch (entering k h n g) (event_at (event_in k h n g));
      next = if is_some (entering k h n g) then suc g.next else g.next;
      retired = if is_some (leaving k h n g) then suc g.retired else g.retired;
      owed = owed_after k h n g;
      units = if steps k h n g then g.units else next_units (unit_entered k (leaving k h n g)) g.units;
      stopped = g.stopped || is_some (stopping k h n g);
    }

-- what it has before row n
unfoldable pub hart_at : Setting → ℕ → ℕ → Hart
hart_at k h zero = first_hart k
hart_at k h (suc n) = next_hart k h n (hart_at k h n)

-- why the cell of an event is turned
abbrev pub turn_in : Event → Option Turn
turn_in (Turned turn at) = Some turn
turn_in (Stopped stop) = None
turn_in (Led at) = None

-- why the cell of a stage is turned, if it is
abbrev pub turn_at : ℕ → Option EventAt → Option Turn
turn_at stage None = None
turn_at stage (Some e) = if e.stage == stage then turn_in e.event else None

-- the cell of this hart with what it has fetched
abbrev pub cell_with : ℕ → Option Turn → Option (Option Fetched) → Option BarrelCell
cell_with h turned None = None
cell_with h turned (Some None) = None
cell_with h turned (Some (Some c)) = Some (record { hart = h; serial = c.serial; at = c.at; word = c.word; turned = turned })

-- its cell in a stage of the row
abbrev pub cell_at : Setting → ℕ → ℕ → Hart → ℕ → Option BarrelCell
cell_at k h n g stage = cell_with h (turn_at stage (event_in k h n g)) (slice_get (stages_in k h n g) stage)

-- what happens to it in the row
abbrev pub part_in : Setting → ℕ → ℕ → Hart → HartPart
part_in k h n g =
    record {
      retired = retired_of k (leaving k h n g);
      written = written_by k g.owed (serial_out k h n g);
      flushed = flushed_in k h n g;
      redirect = redirect_of (event_at (event_in k h n g));
      stop = stopping k h n g;
    }

-- what a hart has in a row: its cells, stage 0 first, and its part
pub record HartRow : Type 0 where
  pub cells : List (Option BarrelCell)
  pub part : HartPart

-- its row
abbrev pub row_in : Setting → ℕ → ℕ → Hart → HartRow
row_in k h n g = record { cells = table (cell_at k h n g) 5; part = part_in k h n g }

-- what hart h has in row n
unfoldable pub hart_row : Setting → ℕ → ℕ → HartRow
hart_row k h n = row_in k h n (hart_at k h n)
