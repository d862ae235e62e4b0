-- What is outstanding after rows: the writes of `spawn` bodies that are retired and not yet written, by serials and rows (SCAIE-V, decoupled execution; that all targets of an
-- instruction are written together is this project's choice).
use Rattle.std.specs.Prelude.{ℕ, suc, List, [], ◌∷◌, ◌++◌, map, reverse, get_or, Option, Some, None, Bool, true, false, ◌&&◌, ◌||◌, not, if◌then◌else◌, ◌==◌, is_some}
use Rattle.std.specs.List.{flat_map}
use Rattle.ix_bits.specs.declared.number.Bits.{Bits}
use Rattle.ix_extension.specs.Extensions.{ExtensionTree}
use Rattle.ix_plan.specs.declared.design.Target.{Target}
use Rattle.ix_plan.specs.declared.design.Target.TheVariants.{X, Custom}
use Rattle.ix_plan.specs.Units.{Slots, next_units}
use Rattle.rv_asks.specs.declared.asks.Asks.{Asks}
use Rattle.rv_seq.specs.declared.arch.Arch.{Arch}
use Rattle.rv_seq.specs.declared.answer.StepAnswer.{StepAnswer}
use Rattle.rv_seq.specs.declared.answer.StepAnswer.TheVariants.{Done, Stopped}
use Rattle.rv_seq.specs.declared.commit.Commit.{Commit}
use Rattle.rv_seq.specs.declared.commit.Slot.{Slot}
use Rattle.rv_seq.specs.Commits.{applied}
use Rattle.rv_seq.specs.Interrupts.{is_return, resumed, diverted}
use Rattle.rv_seq.specs.Runs.{start}
use Rattle.rv_tried.specs.declared.parts.Spawned.{Spawned}
use Rattle.rv_tried.specs.Parts.{native, spawned, paid}
use Rattle.rv_trace.specs.declared.row.Row.{Row}
use Rattle.rv_trace.specs.Trace.{place, retirements}
use Rattle.rv_lawful.specs.Settings.{Setting}

-- Targets

-- is it this register?
abbrev pub is_register : Option ℕ → ℕ → Bool
is_register None r = false
is_register (Some n) r = n == r

-- does its `spawn` body write the target?
abbrev pub has_target : Asks → Target → Bool
has_target a (X r) = is_register a.spawned r
has_target a (Custom c) = get_or a.spawned_customs c false

-- does it read or write the register? Reads of x0, and writes of x0 in its own body, do not count
abbrev pub touches : Asks → Target → Bool
touches a (X r) = (not (r == 0) && ((r == a.first) || ((r == a.second) || (r == a.destination)))) || is_register a.spawned r
touches a (Custom c) = get_or a.customs c false

abbrev pub x_target : Option ℕ → List Target
x_target None = []
x_target (Some r) = X r ∷ []

-- of these flags of custom registers, the first of which is c, those that are set
abbrev pub custom_targets : ℕ → List Bool → List Target
custom_targets c [] = []
custom_targets c (true ∷ rest) = Custom c ∷ custom_targets (suc c) rest
custom_targets c (false ∷ rest) = custom_targets (suc c) rest

-- what its `spawn` body writes, the x register before the custom ones
abbrev pub targets_of : Asks → List Target
targets_of a = x_target a.spawned ++ custom_targets 0 a.spawned_customs

-- Units

-- what a unit writes: the serial, the x register with its value, and the custom registers
abbrev pub Written : Type 0
Written = ℕ × ℕ × Slot ℕ × List (Slot Bits)

abbrev pub serial_written : Option Written → Option ℕ
serial_written None = None
serial_written (Some w) = Some w.0

abbrev pub in_unit : ℕ → Option ℕ → Option (ℕ × ℕ)
in_unit s None = None
in_unit s (Some u) = Some (u, s)

-- the unit which what a row retires enters, with its serial, where it has one
abbrev pub entering : Setting → Option (ℕ × Commit) → Option (ℕ × ℕ)
entering k None = None
entering k (Some (s, c)) = in_unit s (k.asks c.word).unit

-- what stands in the units after these rows
unfoldable pub units_after : Setting → List Row → List Slots
units_after k [] = k.units
units_after k (row ∷ earlier) = next_units (entering k row.retired) (units_after k earlier)

-- Outstanding writes

abbrev pub is_serial : Option ℕ → ℕ → Bool
is_serial None s = false
is_serial (Some t) s = t == s

-- is the serial written by a unit in one of these rows?
unfoldable pub is_written : List Row → ℕ → Bool
is_written [] s = false
is_written (row ∷ earlier) s = is_serial (serial_written row.written) s || is_written earlier s

-- a retired instruction with a unit: its serial and its word
abbrev pub Decoupled : Type 0
Decoupled = ℕ × ℕ

abbrev pub decoupled_in : Setting → Option (ℕ × Commit) → List Decoupled
decoupled_in k None = []
decoupled_in k (Some (s, c)) = if is_some (k.asks c.word).unit then (s, c.word) ∷ [] else []

-- the retired instructions with a unit, the newest first
unfoldable pub decoupled : Setting → List Row → List Decoupled
decoupled k [] = []
decoupled k (row ∷ earlier) = decoupled_in k row.retired ++ decoupled k earlier

-- those of which this is not true
abbrev pub without : (ℕ → Bool) → List Decoupled → List Decoupled
without f [] = []
without f (o ∷ older) = if f o.0 then without f older else o ∷ without f older

-- the outstanding ones after these rows, the newest first: those that are not written
abbrev pub outstanding : Setting → List Row → List Decoupled
outstanding k rows = without (is_written rows) (decoupled k rows)

-- the outstanding targets of an instruction
abbrev pub owed_targets : Setting → Decoupled → List (ℕ × Target)
owed_targets k o = map (λ t. (o.0, t)) (targets_of (k.asks o.1))

-- the outstanding targets after these rows, in the order of retirement
abbrev pub outstanding_targets : Setting → List Row → List (ℕ × Target)
outstanding_targets k rows = flat_map (owed_targets k) (reverse (outstanding k rows))

-- States

-- the state behind what a row retires, if it retires something, as the instruction of this place of the run: what its own body and the blocks write, and behind a return
-- interrupts are taken again
abbrev pub after_retired : ExtensionTree → Setting → ℕ → Option (ℕ × Commit) → Arch → Arch
after_retired x k p None s = s
after_retired x k p (Some (t, c)) s = resumed (is_return x c.word) (applied (native (k.asks c.word) (k.course.blocks p) c) s)

-- the writes of what a unit writes
abbrev pub writes_of : Written → Spawned
writes_of w = record { rd_index = w.1; rd = w.2; custom = w.3 }

-- the state behind what a unit writes in a row, if one does
abbrev pub after_written : Option Written → Arch → Arch
after_written None s = s
after_written (Some w) s = paid (writes_of w) s

-- the state behind the entry of the handler, if the row takes an interrupt
abbrev pub after_entry : ℕ → Option ℕ → Arch → Arch
after_entry handler None s = s
after_entry handler (Some at) s = diverted handler s

-- the architectural state after these rows: that of the writes which the rows show, of what the blocks write to the spawn targets of what is retired, and of the interrupts that are
-- taken
unfoldable pub architecture : ExtensionTree → Setting → List Row → Arch
architecture x k [] = start x k.entries
architecture x k (row ∷ earlier) =
    after_entry k.shape.trap row.taken (after_written row.written (after_retired x k (retirements earlier) row.retired (architecture x k earlier)))

-- the state behind the writes of the `spawn` body of the step at a place; a stop writes nothing
abbrev pub after_spawned : Setting → ℕ → StepAnswer → Arch → Arch
after_spawned k p (Done c) s = paid (spawned (k.asks c.word) (k.course.own p) c) s
after_spawned k p (Stopped stop) s = s

-- the state behind the outstanding writes of these, the oldest first
abbrev pub after_owed : Setting → List Row → List Decoupled → Arch → Arch
after_owed k rows [] s = s
after_owed k rows (o ∷ older) s = after_spawned k (place rows o.0) (k.course.answer (place rows o.0)) (after_owed k rows older s)

-- the applied state after these rows: the architectural one with the outstanding writes applied in the order of retirement
abbrev pub applied_state : ExtensionTree → Setting → List Row → Arch
applied_state x k rows = after_owed k rows (outstanding k rows) (architecture x k rows)
