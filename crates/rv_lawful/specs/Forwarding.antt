-- What an instruction passes on to a younger one that reads its x register before it retires (this project's choice).
use Rattle.std.specs.Prelude.{ℕ, suc, Option, Some, None, Bool, ◌&&◌, ◌||◌, not, if◌then◌else◌, ◌==◌, nat_lt, is_some}
use Rattle.rv_core.specs.declared.Shape.{Shape}
use Rattle.rv_seq.specs.declared.answer.StepAnswer.{StepAnswer}
use Rattle.rv_seq.specs.declared.answer.StepAnswer.TheVariants.{Done, Stopped}
use Rattle.rv_seq.specs.declared.commit.Slot.{Slot}
use Rattle.rv_seq.specs.declared.commit.Slot.TheVariants.{Absent, Now, Later}
use Rattle.rv_asks.specs.declared.asks.Asks.{Asks}
use Rattle.rv_trace.specs.declared.row.Hold.{Hold}

-- the value of a slot that is written now
abbrev pub value_in : Slot ℕ → Option ℕ
value_in Absent = None
value_in (Now value) = Some value
value_in Later = None

-- the value that a step writes to its x register, where its condition is true; a stop writes none
abbrev pub x_written : StepAnswer → Option ℕ
x_written (Done c) = value_in c.rd
x_written (Stopped stop) = None

-- its own body writes the x register r; no write of x0 counts
abbrev pub writes_x : Asks → ℕ → Bool
writes_x a r = not (r == 0) && (a.destination == r)

-- the first stage that an instruction has not been through by the end of a row: the one in which it is held, or the next one
abbrev pub reach_of : ℕ → Option Hold → ℕ
reach_of stage hold = if is_some hold then stage else suc stage

-- its value is there: it stands in a stage above the time of its write, or it has been through EX and, where it loads, through MEM
abbrev pub is_there : Shape → ℕ → ℕ → Asks → Bool
is_there k stage reach a = nat_lt a.x_time stage || (nat_lt k.ex reach && (not a.loads || nat_lt k.mem reach))
