-- What is told of a row with its slots, so that its holds can be judged (this project's choice).
use Rattle.std.specs.Prelude.{◌≡◌, ℕ, suc, ◌+◌, ◌-◌, ◌≤◌, ◌<◌, List, [], ◌∷◌, drop, Option, Some, None, true, false, if◌then◌else◌, is_some, nat_lt, slice_get}
use Rattle.rv_trace.specs.declared.row.Cell.{Cell}
use Rattle.rv_trace.specs.declared.row.Row.{Row}
use Rattle.rv_trace.specs.Trace.{has_serial, is_flushed, is_retired, place, retirements}
use Rattle.rv_tried.specs.declared.trial.Trial.{Trial}
use Rattle.rv_waits.specs.Waits.{wait_at}
use Rattle.rv_holds.specs.declared.token.Token.{Token}
use Rattle.rv_holds.specs.Tokens.{Slots, cells_of, makes_access}
use Rattle.rv_holds.specs.Holds.{waiting_hold, stops_now, shown}
use Rattle.rv_engine.specs.Owing.{Outstanding, IsOwingOf, paying, beside_of}
use Rattle.rv_engine.specs.Rows.{written_of}
use Rattle.rv_unit.specs.Slots.{units_of}
use Rattle.rv_unit.specs.Timed.{IsTimed}
use Rattle.rv_lawful.specs.Outstanding as Out
use Rattle.rv_engine.specs.Settings.{Setting, shape_of}
use Rattle.rv_lawful.specs.Settings as Lawful
use Rattle.rv_lawful.specs.Entering.{is_interrupted}
use Rattle.rv_lawful.specs.LawfulTrace.{IsWordOf}
use Rattle.rv_machine.specs.Owing.{judged, Owing, RetiredAs, Distinct}
use Rattle.rv_machine.specs.Placed.{count, HasWord, IsTried, Placed, Serials}

-- each token shows its hold
abbrev pub Decided : Setting → ℕ → Slots → Type 0
Decided k stage [] = Unit {0}
Decided k stage (None ∷ older) = Decided k (suc stage) older
Decided k stage (Some t ∷ older) = (t.cell.hold ≡ shown (shape_of k) stage t older) × Decided k (suc stage) older

-- no token stops the run
abbrev pub NoStops : Setting → ℕ → Slots → Type 0
NoStops k stage [] = Unit {0}
NoStops k stage (None ∷ older) = NoStops k (suc stage) older
NoStops k stage (Some t ∷ older) = (stops_now (shape_of k) stage t older ≡ false) × NoStops k (suc stage) older

-- how many tokens go out of the last stage
abbrev pub out_last : Option Token → ℕ
out_last None = 0
out_last (Some t) = if is_some t.cell.hold then 0 else 1

abbrev pub out_of : Slots → ℕ
out_of [] = 0
out_of (s ∷ []) = out_last s
out_of (s ∷ u ∷ rest) = out_of (u ∷ rest)

-- what is told of what is outstanding before a row, of what is written in it, and of what its tokens meet
pub record IsBeside (k : Setting) (earlier : List Row) (row : Row) (seen : Slots) (o : Outstanding) : Type 0 where
  pub is : IsOwingOf k.design o
  pub owing : Owing k earlier (Out.outstanding (judged k) earlier) o.entries o.owed
  pub worded : (s word : ℕ) → IsWordOf (judged k) earlier s word → is_flushed earlier s ≡ false → is_retired earlier s ≡ true → RetiredAs earlier s word
  pub units : Out.units_after (judged k) earlier ≡ units_of o.stages o.lasts o.entries
  pub timed : IsTimed o.stages o.lasts o.entries
  pub distinct : Distinct o.owed
  pub written : row.written ≡ written_of (paying o)
  -- what is retired is not flushed
  pub alive : (s : ℕ) → is_flushed earlier s ≡ false → is_retired earlier s ≡ true → is_flushed (row ∷ earlier) s ≡ false
  -- and what is written is retired
  pub paid : (s : ℕ) → Out.is_written earlier s ≡ true → is_retired earlier s ≡ true
  pub meets : (stage : ℕ) (t : Token) (older : Slots) → drop stage seen ≡ Some t ∷ older → t.beside ≡ beside_of (shape_of k) (is_interrupted (judged k) earlier) o stage t.asks

-- what is told of a row with these slots, of which the first stages are flushed
pub record Told (k : Setting) (earlier : List Row) (row : Row) (seen : Slots) : Type 0 where
  pub flushed : ℕ
  pub left : (stage : ℕ) (t : Token) → slice_get seen stage ≡ Some (Some t) → flushed ≤ stage
  pub cells : (stage : ℕ) → flushed ≤ stage → slice_get (Lawful.stages_of (judged k) row) stage ≡ slice_get (cells_of seen) stage
  pub gone : (stage : ℕ) (c : Cell) → stage < flushed → Lawful.Stands (judged k) row stage c → (c.hold ≡ None) × (has_serial row.flushed c.serial ≡ true)
  pub placed : Placed k (retirements earlier) 0 seen
  -- the token of EX was tried where it waits for no register and no pc
  pub tried : (t : Token) (older : Slots) → drop (shape_of k).ex seen ≡ Some t ∷ older → waiting_hold (shape_of k) (shape_of k).ex t older ≡ None → (trial : Trial) × IsTried k (retirements earlier + count older) t trial
  -- for how many rows an access at MEM still waits
  pub owed : ℕ
  pub awaits : (t : Token) (older : Slots) → drop (shape_of k).mem seen ≡ Some t ∷ older → t.wait ≡ (if makes_access t then owed else 0)
  pub memory : (t : Token) (older : Slots) → drop (shape_of k).mem seen ≡ Some t ∷ older → owed ≡ wait_at k.waits (Lawful.accesses_before (judged k).course (retirements earlier + count older)) - Lawful.stood (judged k) earlier t.cell.serial
  -- and for how many a module still goes on
  pub modules : (n : ℕ) (t : Token) (older : Slots) → drop n seen ≡ Some t ∷ older → t.tail + Lawful.tailed (judged k) earlier t.cell.serial ≡ t.asks.tail
  -- what each meets beside the stages
  pub outstanding : Outstanding
  pub beside : IsBeside k earlier row seen outstanding
  pub decided : Decided k 0 seen
  pub serials : Serials (row ∷ earlier) (retirements earlier) seen
  pub words : (s word : ℕ) → IsWordOf (judged k) (row ∷ earlier) s word → HasWord seen s word
  pub before : (s : ℕ) → is_flushed (row ∷ earlier) s ≡ false → is_retired earlier s ≡ nat_lt (place (row ∷ earlier) s) (retirements earlier)
  pub now : (s : ℕ) → is_flushed (row ∷ earlier) s ≡ false → is_retired (row ∷ earlier) s ≡ nat_lt (place (row ∷ earlier) s) (retirements earlier + out_of seen)
