-- What a token that settles its successor flushes, and the stop of a row (this project's choice).
use Rattle.std.specs.Prelude.{ℕ, suc, ◌+◌, ◌%◌, ◌^◌, List, [], ◌∷◌, ◌++◌, map, take, drop, replicate, Option, Some, None, Bool, false, true, not, ◌&&◌, ◌||◌, if◌then◌else◌, ◌==◌, is_some}
use Rattle.rv_core.specs.declared.Shape.{Shape}
use Rattle.rv_seq.specs.declared.commit.Commit.{Commit}
use Rattle.rv_seq.specs.declared.commit.Stop.{Stop}
use Rattle.rv_trace.specs.RowParts.{in_five}
use Rattle.rv_holds.specs.declared.token.Token.{Token}
use Rattle.rv_holds.specs.declared.flushing.Turn.{Turn}
use Rattle.rv_holds.specs.Tokens.{Slots, stop_of, commit_of}
use Rattle.rv_holds.specs.Holds.{is_late, stops_now, held}

-- the address of a token's successor, once it has been tried
abbrev pub next_in : Token → Option Commit → ℕ
next_in t None = (t.cell.at + 4) % 2 ^ 32
next_in t (Some c) = c.next

abbrev pub next_of : Token → ℕ
next_of t = next_in t (commit_of t)

-- the stage from which a token settles its successor: EX, or the last one where it writes the pc late
abbrev pub settles_at : Shape → ℕ → Token → Bool
settles_at k stage t = if is_late t then suc stage == k.stages else stage == k.ex

-- does it settle its successor in this row?
abbrev pub settles : Shape → ℕ → Token → Slots → Bool
settles k stage t older = settles_at k stage t && not (is_some t.cell.hold || stops_now k stage t older)

-- where a token of these settles, and its successor's address
abbrev pub settled : Shape → ℕ → Slots → Option Turn
settled k stage [] = None
settled k stage (None ∷ older) = settled k (suc stage) older
settled k stage (Some t ∷ older) = if settles k stage t older then Some (record { stage = stage; address = next_of t }) else settled k (suc stage) older

-- the address of the oldest of these younger tokens, or, with none there, the one that is to be fetched
abbrev pub nearest : ℕ → Slots → ℕ
nearest fetch [] = fetch
nearest fetch (None ∷ older) = nearest fetch older
nearest fetch (Some t ∷ older) = nearest t.cell.at older

-- a settled address where another one stands next
abbrev pub mismatch : ℕ → Slots → Option Turn → Option Turn
mismatch fetch slots None = None
mismatch fetch slots (Some turn) = if turn.address == nearest fetch (take turn.stage slots) then None else Some turn

-- the stage that turns the fetch, and to which address
abbrev pub turn_of : Shape → ℕ → Slots → Option Turn
turn_of k fetch slots = mismatch fetch slots (settled k 0 slots)

-- does a token remain after the row?
abbrev pub remains : Slots → Bool
remains [] = false
remains (None ∷ rest) = remains rest
remains (Some t ∷ []) = is_some t.cell.hold
remains (Some t ∷ u ∷ rest) = true

-- is the handler entered in the row? An interrupt is to be taken, and no token remains above EX
abbrev pub enters : Shape → Bool → Slots → Bool
enters k interrupted slots = interrupted && not (remains (drop (suc k.ex) slots))

-- the turn of a row: the entry of the handler, or else that of a token
abbrev pub turn_with : Shape → Bool → ℕ → Slots → Option Turn
turn_with k interrupted fetch slots = if enters k interrupted slots then Some (record { stage = suc k.ex; address = k.trap }) else turn_of k fetch slots

-- how many stages are flushed, from stage 0 on
abbrev pub struck : Option Turn → ℕ
struck None = 0
struck (Some turn) = turn.stage

-- the address that a row names
abbrev pub redirect_of : Option Turn → Option ℕ
redirect_of None = None
redirect_of (Some turn) = Some turn.address

-- flushed tokens show no hold
abbrev pub freed : Option Token → Option Token
freed None = None
freed (Some t) = Some (held None t)

abbrev pub unheld : ℕ → Slots → Slots
unheld n slots = map freed (take n slots) ++ drop n slots

-- and are gone
abbrev pub cleared : ℕ → Slots → Slots
cleared n slots = replicate n None ++ drop n slots

-- the serials of these, the oldest first
abbrev pub listed : Slots → List ℕ
listed [] = []
listed (None ∷ older) = listed older
listed (Some t ∷ older) = listed older ++ t.cell.serial ∷ []

-- the serials of the flushed tokens as a row has them
abbrev pub flushed_of : Slots → List (Option ℕ)
flushed_of slots = in_five (listed slots)

-- the stop that a token of these makes
abbrev pub slot_stop : Shape → ℕ → Slots → Option Stop
slot_stop k stage [] = None
slot_stop k stage (None ∷ older) = slot_stop k (suc stage) older
slot_stop k stage (Some t ∷ older) = if stops_now k stage t older then stop_of t else slot_stop k (suc stage) older

-- the plain fetch address of the next row
abbrev pub fetch_after : ℕ → Slots → ℕ
fetch_after fetch [] = fetch
fetch_after fetch (None ∷ older) = fetch
fetch_after fetch (Some t ∷ older) = if is_some t.cell.hold then fetch else t.guess
