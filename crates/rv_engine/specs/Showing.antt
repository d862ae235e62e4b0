-- What a machine shows the modules in a row, with what it has before the row's writes (this project's choice).
use Rattle.std.specs.Prelude.{ℕ, suc, ◌+◌, ◌-◌, List, drop, get_or, Option, Some, None, true, ◌&&◌, not, if◌then◌else◌, ◌==◌, is_none, nat_lt, option_map, max}
use Rattle.ix_bits.specs.declared.number.Bits.{Bits}
use Rattle.ix_eval.specs.declared.access.Access.{Access}
use Rattle.ix_eval.specs.Tables.{table}
use Rattle.rv_core.specs.declared.Shape.{Shape}
use Rattle.rv_isa.specs.Fields.{rs1_of, rs2_of}
use Rattle.rv_lawful.specs.Settings.{is_tail}
use Rattle.rv_ports.specs.declared.shown.Seat.{Seat}
use Rattle.rv_ports.specs.declared.shown.Shown.{Shown}
use Rattle.rv_ports.specs.Drives.{own_number}
use Rattle.rv_ports.specs.Seats.{is_silent, loaded}
use Rattle.rv_seq.specs.declared.arch.Arch.{Arch}
use Rattle.rv_tried.specs.declared.trial.Trial.{Trial}
use Rattle.rv_unit.specs.Entries.{is_frozen}
use Rattle.rv_holds.specs.declared.token.Token.{Token}
use Rattle.rv_holds.specs.Tokens.{Slots}
use Rattle.rv_holds.specs.Forwarding.{operand_in}
use Rattle.rv_holds.specs.Holds.{stops_now}
use Rattle.rv_holds.specs.Flushing.{struck}
use Rattle.rv_engine.specs.Owing.{Outstanding}
use Rattle.rv_engine.specs.Settings.{Setting, Machine, shape_of, outstanding_in}
use Rattle.rv_engine.specs.Rows.{loaded_by, turn_by}

-- the time of a token: its stage; in the last one with the count of earlier rows for which its module went on there
abbrev pub time_by : Shape → ℕ → Token → ℕ
time_by k stage t = if suc stage == k.stages then stage + (t.asks.tail - t.tail) else stage

-- the stage of the first of the tokens that are older than one of this stage and not flushed, where so many stages are flushed
abbrev pub first_older : ℕ → ℕ → ℕ
first_older flushed stage = max (suc stage) flushed

-- the x register r as an operand of a token of this stage
abbrev pub operand_by : Shape → List ℕ → ℕ → Slots → ℕ → ℕ → ℕ
operand_by k x flushed slots stage r = operand_in k true (first_older flushed stage) (drop (first_older flushed stage) slots) x r

-- what a token shows in this stage of these, where so many stages are flushed: what is flushed waits for nothing, and goes nowhere
abbrev pub seat_by : Shape → List ℕ → ℕ → Slots → ℕ → Token → Seat
seat_by k x flushed slots stage t =
    record {
      behaviour = own_number t.decoded;
      time = time_by k stage t;
      at = t.cell.at;
      word = t.cell.word;
      first = operand_by k x flushed slots stage (rs1_of t.cell.word);
      second = operand_by k x flushed slots stage (rs2_of t.cell.word);
      silent = is_silent t.cell.hold && not (nat_lt stage flushed);
      tails = is_tail t.cell.hold && not (nat_lt stage flushed);
      moves = (is_none t.cell.hold && not (nat_lt stage flushed)) && not (stops_now k stage t (drop (suc stage) slots));
    }

-- what the stage shows, where it has a token
abbrev pub slot_seat : Shape → List ℕ → ℕ → Slots → ℕ → Option Seat
slot_seat k x flushed slots stage = option_map (seat_by k x flushed slots stage) (get_or slots stage None)

-- the load of a token that was tried
abbrev pub load_tried : Option Trial → Option Access
load_tried None = None
load_tried (Some trial) = trial.load

-- what the token of a slot loads
abbrev pub slot_load : Option Token → Option Access
slot_load None = None
slot_load (Some t) = load_tried t.trial

-- what these tokens show, with this state, this future file and what is outstanding, where so many stages are flushed
abbrev pub shown_with : Shape → Arch → List Bits → Outstanding → ℕ → Slots → Shown
shown_with k arch future o flushed slots =
    record {
      seats = table (slot_seat k arch.x flushed slots) 5;
      custom = future;
      datum = loaded arch.mem (slot_load (get_or slots k.mem None));
      frozen = table (is_frozen o.lasts o.entries) 64;
    }

-- what the machine shows in its next row
abbrev pub shown_of : Setting → Machine → Shown
shown_of k m = shown_with (shape_of k) m.arch m.future (outstanding_in k m) (struck (turn_by k m)) (loaded_by k m)
