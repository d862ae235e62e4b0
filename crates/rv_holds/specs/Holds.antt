-- Why a token stays in its stage, as a pipeline decides it (this project's choice).
use Rattle.std.specs.Prelude.{ℕ, zero, suc, ◌-◌, [], ◌∷◌, get_or, Option, Some, None, Bool, false, ◌&&◌, ◌||◌, not, if◌then◌else◌, ◌==◌, nat_lt, is_some, is_none, min, max}
use Rattle.ix_plan.specs.declared.design.Target.{Target}
use Rattle.ix_plan.specs.declared.design.Target.TheVariants.{X}
use Rattle.ix_plan.specs.declared.design.Target.TheVariants as target
use Rattle.rv_core.specs.declared.Shape.{Shape}
use Rattle.rv_trace.specs.declared.row.Hold.{Hold}
use Rattle.rv_trace.specs.declared.row.Hold.TheVariants.{Operand, Board, Custom, Late, Trap, Drain, Wait, StoreAhead, Tail, Behind}
use Rattle.rv_asks.specs.declared.asks.Asks.{Asks}
use Rattle.rv_lawful.specs.Outstanding.{has_target, touches}
use Rattle.rv_holds.specs.declared.token.Token.{Token}
use Rattle.rv_holds.specs.Tokens.{Slots, or_else, stop_of}

-- the oldest token of which this is true
abbrev pub oldest : (Token → Bool) → Slots → Option ℕ
oldest f [] = None
oldest f (None ∷ older) = oldest f older
oldest f (Some t ∷ older) = or_else (oldest f older) (if f t then Some t.cell.serial else None)

-- does the token of this stage write this x register, its value not there yet for a younger one? On a core that forwards it is there above the time of the write
abbrev pub withholds : Shape → ℕ → ℕ → Token → Bool
withholds k r stage t = (t.asks.destination == r) && not (k.forward && nat_lt t.asks.x_time stage)

-- the oldest such token of these, the first of them in this stage
abbrev pub withholder : Shape → ℕ → ℕ → Slots → Option ℕ
withholder k r stage [] = None
withholder k r stage (None ∷ older) = withholder k r (suc stage) older
withholder k r stage (Some t ∷ older) = or_else (withholder k r (suc stage) older) (if withholds k r stage t then Some t.cell.serial else None)

-- does a token write this custom register late, store, write the pc late?
abbrev pub writes_late : ℕ → Token → Bool
writes_late r t = get_or t.asks.late_customs r false

abbrev pub does_store : Token → Bool
does_store t = t.asks.stores

abbrev pub is_late : Token → Bool
is_late t = t.asks.late

-- an x register is waited for, the least one first
abbrev pub operand : ℕ → Option ℕ → Option Hold
operand r None = None
operand r (Some j) = Some (Operand r j)

abbrev pub waits_for : Shape → ℕ → ℕ → Slots → Option Hold
waits_for k r stage older = if r == 0 then None else operand r (withholder k r stage older)

-- of an instruction before these, the first of them in this stage
abbrev pub operand_hold : Shape → ℕ → Slots → Asks → Option Hold
operand_hold k stage older a = or_else (waits_for k (min a.first a.second) stage older) (waits_for k (max a.first a.second) stage older)

-- how many registers there are: 32 of the base, and 16 custom ones
unfoldable pub register_count : ℕ
register_count = 48

-- a register by its number: those of the base, then the custom ones
abbrev pub register_at : ℕ → Target
register_at n = if nat_lt n 32 then X n else target.Custom (n - 32)

-- the `spawn` body of the token's instruction writes this register
abbrev pub spawns_at : ℕ → Token → Bool
spawns_at n t = has_target t.asks (register_at n)

-- the oldest token whose `spawn` body writes this register, where the instruction touches it
abbrev pub spawner : Slots → Asks → ℕ → Option ℕ
spawner older a n = if touches a (register_at n) then oldest (spawns_at n) older else None

abbrev pub numbered : ℕ → Option ℕ → Option (ℕ × ℕ)
numbered n None = None
numbered n (Some j) = Some (n, j)

-- of f n, f (n + 1), .., so many, the first that there is, with its number
abbrev pub least_from : (ℕ → Option ℕ) → ℕ → ℕ → Option (ℕ × ℕ)
least_from f n zero = None
least_from f n (suc count) = or_else (numbered n (f n)) (least_from f (suc n) count)

-- the one with the lower number, and the first where the numbers are one
abbrev pub lower_of : Option (ℕ × ℕ) → Option (ℕ × ℕ) → Option (ℕ × ℕ)
lower_of None other = other
lower_of (Some one) None = Some one
lower_of (Some one) (Some other) = if nat_lt other.0 one.0 then Some other else Some one

-- a register with an outstanding write is waited for
abbrev pub board : Option (ℕ × ℕ) → Option Hold
board None = None
board (Some found) = Some (Board (register_at found.0) found.1)

-- the least one first: of those that are owed beside the stages, and of those that an older token spawns
abbrev pub board_hold : Token → Slots → Option Hold
board_hold t older = board (lower_of t.beside.board (least_from (spawner older t.asks) 0 register_count))

-- a custom register is waited for, the least one first
abbrev pub custom : ℕ → Option ℕ → Option Hold
custom r None = None
custom r (Some j) = Some (Custom r j)

abbrev pub waits_for_custom : Slots → Asks → ℕ → Option Hold
waits_for_custom older a r = if get_or a.customs r false then custom r (oldest (writes_late r) older) else None

-- the first that there is of f r, f (r + 1), .., so many
abbrev pub first_from : (ℕ → Option Hold) → ℕ → ℕ → Option Hold
first_from f r zero = None
first_from f r (suc n) = or_else (f r) (first_from f (suc r) n)

abbrev pub custom_hold : Slots → Asks → Option Hold
custom_hold older a = first_from (waits_for_custom older a) 0 16

-- an older token writes the pc late
abbrev pub late : Option ℕ → Option Hold
late None = None
late (Some j) = Some (Late j)

abbrev pub late_hold : Slots → Option Hold
late_hold older = late (oldest is_late older)

-- a token at RD waits for an operand first, and then for an outstanding register
abbrev pub reading_hold : Shape → ℕ → Token → Slots → Option Hold
reading_hold k stage t older = or_else (operand_hold k (suc stage) older t.asks) (board_hold t older)

-- the holds until which a token can't be tried at EX
abbrev pub waiting_hold : Shape → ℕ → Token → Slots → Option Hold
waiting_hold k stage t older =
    or_else (if stage == k.rd then reading_hold k stage t older else None)
    (if stage == k.ex then or_else (custom_hold older t.asks) (late_hold older) else None)

-- an interrupt is to be taken
abbrev pub trap_hold : Token → Option Hold
trap_hold t = if t.beside.trap then Some Trap else None

abbrev pub drain : Option ℕ → Option Hold
drain None = None
drain (Some j) = Some (Drain j)

-- the oldest token that is not retired by the end of the row
abbrev pub staying : Slots → Option ℕ
staying [] = None
staying (None ∷ older) = staying older
staying (Some t ∷ []) = if is_some t.cell.hold then Some t.cell.serial else None
staying (Some t ∷ u ∷ older) = or_else (staying (u ∷ older)) (Some t.cell.serial)

-- the token that goes out of the last stage into a unit
abbrev pub entering : Slots → Option ℕ
entering [] = None
entering (None ∷ []) = None
entering (Some t ∷ []) = if is_some t.asks.unit && is_none t.cell.hold then Some t.cell.serial else None
entering (s ∷ u ∷ older) = entering (u ∷ older)

-- the oldest serial that is outstanding or not retired by the end of the row
abbrev pub left_behind : Token → Slots → Option ℕ
left_behind t older = or_else t.beside.left (or_else (entering older) (staying older))

abbrev pub drain_hold : Token → Slots → Option Hold
drain_hold t older = if is_some (stop_of t) then drain (left_behind t older) else None

-- a token at EX waits for the entry of the handler first, and then, if it is due to stop, for the older ones
abbrev pub leaving_hold : Token → Slots → Option Hold
leaving_hold t older = or_else (trap_hold t) (drain_hold t older)

abbrev pub store_ahead : Option ℕ → Option Hold
store_ahead None = None
store_ahead (Some j) = Some (StoreAhead j)

-- a load waits for the oldest store
abbrev pub store_hold : Slots → Asks → Option Hold
store_hold older a = if a.loads then store_ahead (oldest does_store older) else None

-- an access waits for the memory
abbrev pub memory_hold : Token → Option Hold
memory_hold t = if t.wait == 0 then None else Some (Wait t.wait)

-- a module is not done
abbrev pub tail_hold : Token → Option Hold
tail_hold t = if t.tail == 0 then None else Some (Tail t.tail)

-- a token in the last stage waits for its module first, and then for a unit or the port
abbrev pub ending_hold : Token → Option Hold
ending_hold t = or_else (tail_hold t) t.beside.port

-- the first true hold of a token but Behind
abbrev pub own_hold : Shape → ℕ → Token → Slots → Option Hold
own_hold k stage t older =
    or_else (waiting_hold k stage t older)
    (or_else (if stage == k.ex then leaving_hold t older else None)
    (or_else (if stage == k.mem then or_else (memory_hold t) (store_hold older t.asks) else None)
    (if suc stage == k.stages then ending_hold t else None)))

-- does it stop the run in this row?
abbrev pub stops_now : Shape → ℕ → Token → Slots → Bool
stops_now k stage t older = (stage == k.ex) && is_some (stop_of t) && is_none (own_hold k stage t older)

-- is the token of this stage, the first of these, held, or does it stop the run?
abbrev pub is_blocked : Shape → ℕ → Slots → Bool
is_blocked k stage [] = false
is_blocked k stage (None ∷ older) = false
is_blocked k stage (Some t ∷ older) = is_some t.cell.hold || stops_now k stage t older

-- what a token shows
abbrev pub shown : Shape → ℕ → Token → Slots → Option Hold
shown k stage t older =
    if stops_now k stage t older then None
    else or_else (own_hold k stage t older) (if is_blocked k (suc stage) older then Some Behind else None)

-- the token with this hold
abbrev pub held : Option Hold → Token → Token
held h t =
    record {
      cell = record { serial = t.cell.serial; at = t.cell.at; word = t.cell.word; hold = h };
      decoded = t.decoded;
      asks = t.asks;
      inputs = t.inputs;
      trial = t.trial;
      wait = t.wait;
      tail = t.tail;
      beside = t.beside;
      guess = t.guess;
      back = t.back;
    }

abbrev pub with_hold : Shape → ℕ → Option Token → Slots → Option Token
with_hold k stage None older = None
with_hold k stage (Some t) older = Some (held (shown k stage t older) t)

-- the holds, decided from the oldest down
abbrev pub decided : Shape → ℕ → Slots → Slots
decided k stage [] = []
decided k stage (s ∷ older) = with_hold k stage s (decided k (suc stage) older) ∷ decided k (suc stage) older
