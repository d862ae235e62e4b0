-- The row that a machine makes, and what it keeps then (this project's choice).
use Rattle.std.specs.Prelude.{◌≡◌, ℕ, suc, ◌-◌, List, [], ◌∷◌, take, drop, replicate, Option, Some, None, Bool, true, false, ◌&&◌, ◌||◌, not, if◌then◌else◌, ◌==◌, is_some, is_none, option_map}
use Rattle.ix_bits.specs.declared.number.Bits.{Bits}
use Rattle.ix_extension.specs.Extensions.{ExtensionTree, view_extension}
use Rattle.ix_plan.specs.declared.design.Design.{Design}
use Rattle.ix_mean.specs.declared.evaluate.State.{State}
use Rattle.rv_core.specs.declared.Shape.{Shape}
use Rattle.rv_core.specs.Guesses.{next_word, guess_of}
use Rattle.rv_isa.specs.Fields.{rs1_of, rs2_of}
use Rattle.rv_seq.specs.Decoding.{decoded_in}
use Rattle.rv_seq.specs.declared.arch.Arch.{Arch}
use Rattle.rv_seq.specs.declared.answer.StepAnswer.{StepAnswer}
use Rattle.rv_seq.specs.declared.answer.StepAnswer.TheVariants.{Done, Stopped}
use Rattle.rv_seq.specs.declared.commit.Commit.{Commit}
use Rattle.rv_seq.specs.declared.commit.Stop.{Stop}
use Rattle.rv_seq.specs.declared.commit.Stop.TheVariants.{Fetch}
use Rattle.rv_seq.specs.Steps.{word_at}
use Rattle.rv_seq.specs.Commits.{applied}
use Rattle.rv_seq.specs.declared.arch.TrapState.{TrapState}
use Rattle.rv_seq.specs.Interrupts.{return_to, is_return, resumed}
use Rattle.rv_waits.specs.Waits.{wait_at}
use Rattle.rv_trace.specs.declared.row.Hold.{Hold}
use Rattle.rv_trace.specs.declared.row.Hold.TheVariants.{Tail}
use Rattle.rv_trace.specs.declared.row.Row.{Row}
use Rattle.rv_asks.specs.declared.asks.Asks.{Asks}
use Rattle.rv_asks.specs.Asks.{asks_in}
use Rattle.rv_tried.specs.declared.trial.Trial.{Trial}
use Rattle.rv_tried.specs.Tried.{tried}
use Rattle.rv_tried.specs.Parts.{shown, native, spawned, paid}
use Rattle.rv_lawful.specs.Outstanding.{Written, after_entry}
use Rattle.rv_lawful.specs.Future.{early_after, late_after, spawned_after}
use Rattle.rv_lawful.specs.Settings.{jump_with}
use Rattle.rv_holds.specs.declared.token.Beside.{Beside}
use Rattle.rv_holds.specs.declared.token.Token.{Token}
use Rattle.rv_holds.specs.declared.flushing.Turn.{Turn}
use Rattle.rv_holds.specs.Tokens.{Slots, or_else, commit_of, makes_access, cells_of}
use Rattle.rv_holds.specs.Forwarding.{operand_in}
use Rattle.rv_holds.specs.Holds.{waiting_hold, decided}
use Rattle.rv_holds.specs.Flushing.{enters, turn_with, struck, redirect_of, unheld, cleared, flushed_of, slot_stop, remains, fetch_after}
use Rattle.rv_engine.specs.declared.owing.Owed.{Owed}
use Rattle.rv_engine.specs.declared.reading.Operands.{Operands}
use Rattle.rv_engine.specs.Owing.{Outstanding, beside_of, paying, outstanding_after}
use Rattle.rv_engine.specs.Settings.{Setting, Machine, shape_of, tree_of, outstanding_in, pending_by, interrupted_by}

-- Fetch

-- the token of a fetched word, which sees no operands yet
abbrev pub new_token : Design → List Bits → Option TrapState → ℕ → ℕ → ℕ → Token
new_token d future trap serial at word =
    record {
      cell = record { serial = serial; at = at; word = word; hold = None };
      decoded = decoded_in (view_extension d.extension) word;
      asks = asks_in d word (decoded_in (view_extension d.extension) word);
      inputs = record { word = word; rs1 = 0; rs2 = 0; pc = at; custom = future };
      trial = None;
      wait = 0;
      tail = (asks_in d word (decoded_in (view_extension d.extension) word)).tail;
      beside = record { board = None; port = None; left = None; trap = false };
      guess = next_word at;
      back = return_to word trap;
    }

-- what is fetched, where there is a word
abbrev pub fetched : Design → List Bits → Option TrapState → ℕ → ℕ → Option ℕ → Option Token
fetched d future trap serial at None = None
fetched d future trap serial at (Some word) = Some (new_token d future trap serial at word)

-- stage 0 takes it where it is free
abbrev pub fill_first : Option Token → Slots → Slots
fill_first new [] = []
fill_first new (s ∷ older) = or_else s new ∷ older

-- the serial of the next fetch
abbrev pub next_after : ℕ → Slots → Option Token → ℕ
next_after next [] new = next
next_after next (Some t ∷ older) new = next
next_after next (None ∷ older) new = if is_some new then suc next else next

-- the token with the guess of the address behind it: on a core that predicts where the always-blocks jump to from it with the future file, if they jump, else the next word's
abbrev pub with_guess : Design → List Bits → List ℕ → Token → Token
with_guess d future memory t =
    record {
      cell = t.cell;
      decoded = t.decoded;
      asks = t.asks;
      inputs = t.inputs;
      trial = t.trial;
      wait = t.wait;
      tail = t.tail;
      beside = t.beside;
      guess = guess_of d.sheet.shape.predict (jump_with (view_extension d.extension) future memory t.cell.at t.cell.word) t.cell.at;
      back = t.back;
    }

-- the token of stage 0, so
abbrev pub guess_first : Design → List Bits → List ℕ → Slots → Slots
guess_first d future memory [] = []
guess_first d future memory (s ∷ older) = option_map (with_guess d future memory) s ∷ older

-- Operands and what is tried

-- the token with these inputs, so many rows to wait, and what it meets beside the stages
abbrev pub with_inputs : State → ℕ → Beside → Token → Token
with_inputs i wait beside t =
    record { cell = t.cell; decoded = t.decoded; asks = t.asks; inputs = i; trial = t.trial; wait = wait; tail = t.tail; beside = beside; guess = t.guess; back = t.back }

-- the operands of a word before these tokens, the first of them in this stage, as a row begins
abbrev pub operand_pair : Shape → ℕ → Slots → List ℕ → ℕ → Operands
operand_pair k stage older x word = record { first = operand_in k false stage older x (rs1_of word); second = operand_in k false stage older x (rs2_of word) }

-- those of the token of RD, where one is there
abbrev pub slot_operands : Shape → ℕ → Option Token → Slots → List ℕ → Option Operands
slot_operands k stage None older x = None
slot_operands k stage (Some t) older x = if stage == k.rd then Some (operand_pair k (suc stage) older x t.inputs.word) else None

-- with these operands, where there are some
abbrev pub with_pair : Option Operands → State → State
with_pair None i = i
with_pair (Some o) i = record { word = i.word; rs1 = o.first; rs2 = o.second; pc = i.pc; custom = i.custom }

-- the token with these operands, where there are some; at MEM with the rows for which its access still waits; and with what it meets beside the stages
abbrev pub read_with : Shape → Option Operands → ℕ → Bool → Outstanding → ℕ → Token → Token
read_with k operands wait interrupted o stage t = with_inputs (with_pair operands t.inputs) (if (stage == k.mem) && makes_access t then wait else 0) (beside_of k interrupted o stage t.asks) t

-- each slot so, that of RD with its operands
abbrev pub reading : Shape → List ℕ → ℕ → Bool → Outstanding → ℕ → Slots → Slots
reading k x wait interrupted o stage [] = []
reading k x wait interrupted o stage (s ∷ older) = option_map (read_with k (slot_operands k stage s older x) wait interrupted o stage) s ∷ reading k x wait interrupted o (suc stage) older

-- the token tried with these inputs on this memory
abbrev pub tried_with : ExtensionTree → List ℕ → State → Token → Token
tried_with x memory i t =
    record {
      cell = t.cell;
      decoded = t.decoded;
      asks = t.asks;
      inputs = i;
      trial = Some (tried x i memory t.back t.decoded);
      wait = t.wait;
      tail = t.tail;
      beside = t.beside;
      guess = t.guess;
      back = t.back;
    }

-- it sees the custom registers of the future file
abbrev pub seeing : List Bits → State → State
seeing future i = record { word = i.word; rs1 = i.rs1; rs2 = i.rs2; pc = i.pc; custom = future }

-- at EX it is tried once, when it waits for no register and no pc
abbrev pub is_ripe : Shape → ℕ → Token → Slots → Bool
is_ripe k stage t older = (stage == k.ex) && (is_none t.trial && is_none (waiting_hold k stage t older))

-- the slot, tried if it is to be
abbrev pub with_trial : ExtensionTree → Shape → List Bits → List ℕ → ℕ → Option Token → Slots → Option Token
with_trial x k future memory stage None older = None
with_trial x k future memory stage (Some t) older =
    if is_ripe k stage t older then Some (tried_with x memory (seeing future t.inputs) t) else Some t

-- each slot so
abbrev pub trying : ExtensionTree → Shape → List Bits → List ℕ → ℕ → Slots → Slots
trying x k future memory stage [] = []
trying x k future memory stage (s ∷ older) = with_trial x k future memory stage s older ∷ trying x k future memory (suc stage) older

-- as it leaves MEM a load reads the memory
abbrev pub is_loading : Shape → ℕ → Token → Bool
is_loading k stage t = (stage == k.mem) && (is_none t.cell.hold && t.asks.loads)

-- the slot, tried again if it is to read
abbrev pub with_load : ExtensionTree → Shape → List ℕ → ℕ → Option Token → Option Token
with_load x k memory stage None = None
with_load x k memory stage (Some t) = if is_loading k stage t then Some (tried_with x memory t.inputs t) else Some t

-- each slot so
abbrev pub loading : ExtensionTree → Shape → List ℕ → ℕ → Slots → Slots
loading x k memory stage [] = []
loading x k memory stage (s ∷ older) = with_load x k memory stage s ∷ loading x k memory (suc stage) older

-- Moves

-- a row held by Tail is one of those for which it is held
abbrev pub tail_after : Option Hold → ℕ → ℕ
tail_after (Some (Tail left)) n = n - 1
tail_after h n = n

-- a token that stays, after the row
abbrev pub waited : Token → Token
waited t =
    record {
      cell = t.cell;
      decoded = t.decoded;
      asks = t.asks;
      inputs = t.inputs;
      trial = t.trial;
      wait = t.wait;
      tail = tail_after t.cell.hold t.tail;
      beside = t.beside;
      guess = t.guess;
      back = t.back;
    }

-- the token that goes on from a slot
abbrev pub going : Option Token → Option Token
going None = None
going (Some t) = if is_some t.cell.hold then None else Some t

-- what a slot has after the moves, where this token comes to it
abbrev pub kept : Option Token → Option Token → Option Token
kept come None = come
kept come (Some t) = if is_some t.cell.hold then Some (waited t) else come

-- the slots after the moves, where `come` comes into the first of them
abbrev pub advanced : Option Token → Slots → Slots
advanced come [] = []
advanced come (s ∷ older) = kept come s ∷ advanced (going s) older

-- the token that goes out of the last stage
abbrev pub leaving : Option Token → Slots → Option Token
leaving come [] = come
leaving come (s ∷ older) = leaving (going s) older

-- the record that a retirement shows, with the serial, where there is one
abbrev pub with_serial : ℕ → Asks → Option Commit → Option (ℕ × Commit)
with_serial s a None = None
with_serial s a (Some c) = Some (s, shown a c)

-- what the token that goes out retires
abbrev pub retired_of : Option Token → Option (ℕ × Commit)
retired_of None = None
retired_of (Some t) = with_serial t.cell.serial t.asks (commit_of t)

-- what is written at retirement of what an instruction came to
abbrev pub native_in : Asks → List (Option Bits) → StepAnswer → Option Commit
native_in a blocks (Done c) = Some (native a blocks c)
native_in a blocks (Stopped stop) = None

abbrev pub native_tried : Asks → Option Trial → Option Commit
native_tried a None = None
native_tried a (Some trial) = native_in a trial.blocks trial.answer

-- what the token that goes out writes
abbrev pub native_of : Option Token → Option Commit
native_of None = None
native_of (Some t) = native_tried t.asks t.trial

-- what an instruction owes that came to this
abbrev pub owed_in : ℕ → Asks → List Bool → StepAnswer → Option Owed
owed_in s a own (Done c) = Some (record { serial = s; asks = a; writes = spawned a own c })
owed_in s a own (Stopped stop) = None

abbrev pub owed_tried : ℕ → Asks → Option Trial → Option Owed
owed_tried s a None = None
owed_tried s a (Some trial) = owed_in s a trial.own trial.answer

-- beside the unit, where there is one
abbrev pub into_unit : Option ℕ → Option Owed → Option (ℕ × Owed)
into_unit None owed = None
into_unit (Some u) None = None
into_unit (Some u) (Some owed) = Some (u, owed)

-- what the token that goes out enters a unit with, where it has one
abbrev pub entering_of : Option Token → Option (ℕ × Owed)
entering_of None = None
entering_of (Some t) = into_unit t.asks.unit (owed_tried t.cell.serial t.asks t.trial)

-- what a unit writes, as a row shows it
abbrev pub written_of : Option Owed → Option Written
written_of None = None
written_of (Some o) = Some (o.serial, o.writes.rd_index, o.writes.rd, o.writes.custom)

-- The future file

-- the same of a trial, where there is one
abbrev pub trial_early : Asks → Option Trial → List Bits → List Bits
trial_early a None file = file
trial_early a (Some trial) file = early_after a trial.blocks trial.answer file

abbrev pub trial_late : Asks → Option Trial → List Bits → List Bits
trial_late a None file = file
trial_late a (Some trial) file = late_after a trial.own trial.answer file

-- the future file after a token leaves EX, where one does
abbrev pub file_early : Option Token → List Bits → List Bits
file_early None file = file
file_early (Some t) file = trial_early t.asks t.trial file

-- and after a unit writes
abbrev pub file_paid : Option Owed → List Bits → List Bits
file_paid None file = file
file_paid (Some o) file = spawned_after o.writes file

-- and after one goes out of the last stage
abbrev pub file_late : Option Token → List Bits → List Bits
file_late None file = file
file_late (Some t) file = trial_late t.asks t.trial file

-- The row

-- the slot of the first of these stages
abbrev pub first_slot : Slots → Option Token
first_slot [] = None
first_slot (s ∷ older) = s

-- for how many rows the next access still waits, where its token has stood in MEM for so many
abbrev pub owed_by : Setting → Machine → ℕ
owed_by k m = wait_at k.waits m.accesses - m.stood

-- what the machine fetches
abbrev pub new_by : Setting → Machine → Option Token
new_by k m = fetched k.design m.future m.arch.trap m.next m.fetch (word_at k.image m.fetch)

-- the slots after the fetch, with the guess behind the first
abbrev pub filled_by : Setting → Machine → Slots
filled_by k m = guess_first k.design m.future m.arch.mem (fill_first (new_by k m) m.slots)

-- with their operands
abbrev pub read_by : Setting → Machine → Slots
read_by k m = reading (shape_of k) m.arch.x (owed_by k m) (interrupted_by k m) (outstanding_in k m) 0 (filled_by k m)

-- with their holds, once the token of EX is tried
abbrev pub held_by : Setting → Machine → Slots
held_by k m = decided (shape_of k) 0 (trying (tree_of k) (shape_of k) m.future m.arch.mem 0 (read_by k m))

-- with what the load of MEM reads
abbrev pub loaded_by : Setting → Machine → Slots
loaded_by k m = loading (tree_of k) (shape_of k) m.arch.mem 0 (held_by k m)

-- is the handler entered?
abbrev pub entered_by : Setting → Machine → Bool
entered_by k m = enters (shape_of k) (interrupted_by k m) (loaded_by k m)

-- where the fetch is turned
abbrev pub turn_by : Setting → Machine → Option Turn
turn_by k m = turn_with (shape_of k) (interrupted_by k m) m.fetch (loaded_by k m)

-- without the flushed tokens
abbrev pub seen_by : Setting → Machine → Slots
seen_by k m = cleared (struck (turn_by k m)) (loaded_by k m)

-- the number that is there, or this one
abbrev pub unless : Option ℕ → ℕ → ℕ
unless None n = n
unless (Some m) n = m

-- the fetch address that is named, or the plain one
abbrev pub fetch_by : Setting → Machine → ℕ
fetch_by k m = unless (redirect_of (turn_by k m)) (fetch_after m.fetch (seen_by k m))

-- the token that goes out of the last stage in the row
abbrev pub left_by : Setting → Machine → Option Token
left_by k m = leaving None (seen_by k m)

-- what is outstanding after the row
abbrev pub outstanding_by : Setting → Machine → Outstanding
outstanding_by k m = outstanding_after (outstanding_in k m) (entering_of (left_by k m))

abbrev pub is_owing : List Owed → Bool
is_owing [] = false
is_owing (o ∷ owed) = true

-- the stop of the row, which is that of a token, or that of a fetch with no word where no token is left and nothing is outstanding
abbrev pub stop_after : Setting → Machine → Option Stop
stop_after k m =
    or_else (slot_stop (shape_of k) 0 (seen_by k m))
    (if remains (seen_by k m) || (is_owing (outstanding_by k m).owed || is_some (word_at k.image (fetch_by k m))) then None else Some Fetch)

-- the state after what is written at retirement
abbrev pub arch_retired : ExtensionTree → Option Commit → Arch → Arch
arch_retired x None s = s
arch_retired x (Some c) s = resumed (is_return x c.word) (applied c s)

-- and after what a unit writes
abbrev pub arch_paid : Option Owed → Arch → Arch
arch_paid None s = s
arch_paid (Some o) s = paid o.writes s

-- what a unit writes in the row
abbrev pub paid_by : Setting → Machine → Option Owed
paid_by k m = paying (outstanding_in k m)

-- the token that leaves EX in the row
abbrev pub executed_by : Setting → Machine → Option Token
executed_by k m = going (first_slot (drop (shape_of k).ex (seen_by k m)))

-- the accesses that have left MEM after the row
abbrev pub accesses_after : ℕ → Option Token → ℕ
accesses_after n None = n
accesses_after n (Some t) = if is_some t.cell.hold then n else if makes_access t then suc n else n

-- for how many rows the token that stays in MEM has stood there
abbrev pub stood_after : ℕ → Option Token → ℕ
stood_after n None = 0
stood_after n (Some t) = if is_some t.cell.hold then suc n else 0

-- the slot of MEM
abbrev pub memory_by : Setting → Machine → Option Token
memory_by k m = first_slot (drop (shape_of k).mem (seen_by k m))

-- the state after what is written at retirement, and by a unit
abbrev pub written_by : Setting → Machine → Arch
written_by k m = arch_paid (paid_by k m) (arch_retired (tree_of k) (native_of (left_by k m)) m.arch)

-- the address at which the handler is entered, if it is
abbrev pub taken_by : Setting → Machine → Option ℕ
taken_by k m = if entered_by k m then Some (written_by k m).pc else None

-- the row that the machine makes
pub record IsRowOf (k : Setting) (m : Machine) (row : Row) : Type 0 where
  pub cells : take (shape_of k).stages row.cells ≡ cells_of (unheld (struck (turn_by k m)) (loaded_by k m))
  pub behind : drop (shape_of k).stages row.cells ≡ drop (shape_of k).stages (replicate 5 None)
  pub retired : row.retired ≡ retired_of (left_by k m)
  pub written : row.written ≡ written_of (paid_by k m)
  pub flushed : row.flushed ≡ flushed_of (take (struck (turn_by k m)) (loaded_by k m))
  pub redirect : row.redirect ≡ redirect_of (turn_by k m)
  pub taken : row.taken ≡ taken_by k m
  pub stop : row.stop ≡ stop_after k m

-- what it keeps then: a token that leaves EX has put the writes of the blocks and its own of EX into the future file, one that retires its late ones, and a unit those of a
-- `spawn` body
abbrev pub machine_after : Setting → Machine → Machine
machine_after k m =
    record {
      slots = advanced None (seen_by k m);
      fetch = fetch_by k m;
      next = next_after m.next m.slots (new_by k m);
      accesses = accesses_after m.accesses (memory_by k m);
      stood = stood_after m.stood (memory_by k m);
      rows = suc m.rows;
      waiting = pending_by k m && not (entered_by k m);
      future = file_early (executed_by k m) (file_late (left_by k m) (file_paid (paid_by k m) m.future));
      arch = after_entry (shape_of k).trap (taken_by k m) (written_by k m);
      entries = (outstanding_by k m).entries;
      owed = (outstanding_by k m).owed;
    }
