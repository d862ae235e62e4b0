-- What is told of a row that is judged (this project's choice): the first respect in which it is not right, or none.
use Rattle.std.specs.Prelude.{ℕ, ◌<◌, List, ◌∷◌, Option, Some, None, Bool, true, false, Result, Ok, Err}
use Rattle.ix_bits.specs.declared.memory.Memory.{Memory}
use Rattle.rv_trace.specs.declared.row.Row.{Row}
use Rattle.rv_lawful.specs.Settings.{Setting}
use Rattle.rv_lawful.specs.LawfulTrace.{WritesUnit}
use Rattle.rv_seq.specs.declared.answer.StepAnswer.{StepAnswer}
use Rattle.rv_seq.specs.declared.answer.StepAnswer.TheVariants.{Done, Stopped}
use Rattle.rv_seq.specs.declared.commit.Commit.{Commit}
use Rattle.rv_lawful.specs.Outstanding.{Written}
use Rattle.rv_shown.specs.Shown.{Shown}
use Rattle.rv_rows.specs.Kinds.{Kind, of_moves, of_hold, of_fetch, of_successor, of_unit, of_stop, of_commit, of_write, HoldsRightly, FetchesRightly, SucceedsRightly, StopsInPlace, RetiresRightly, WritesRightly, IsRight, IsAllRight}
use Rattle.rv_rows.specs.Made.{row_of}
use Rattle.rv_past.specs.declared.due.Due.{Due}
use Rattle.rv_watch.specs.Faults.{number_of}
use Rattle.rv_watch.specs.declared.against.Against.{Against}
use Rattle.rv_watch.specs.declared.watch.Watch.{Watch}
use Rattle.rv_watch.specs.Watched.{setting_of, IsWatched}
use Rattle.rv_audit.specs.declared.judging.Fault.{Fault}
use Rattle.rv_audit.specs.declared.judging.Fault.TheVariants as fault

-- the respect of a fault
abbrev pub kind_of : Fault → Kind
kind_of fault.Moves = of_moves
kind_of fault.Hold = of_hold
kind_of fault.Fetch = of_fetch
kind_of fault.Successor = of_successor
kind_of fault.Unit = of_unit
kind_of fault.Stop = of_stop
kind_of fault.Commit = of_commit
kind_of fault.Write = of_write

-- does the step not stop?
abbrev pub is_done : StepAnswer → Bool
is_done (Done c) = true
is_done (Stopped stop) = false

-- what is retired, if anything is, is of a step that does not stop
abbrev pub retires_step : Due → Option (ℕ × Commit) → Bool
retires_step next None = true
retires_step next (Some r) = is_done next.step.answer

-- is there a step, and does it not stop?
abbrev pub is_step_done : Option (ℕ × Due) → Bool
is_step_done None = false
is_step_done (Some w) = is_done w.1.step.answer

-- what is written, if anything is, is of a step that does not stop
abbrev pub writes_step : Option (ℕ × Due) → Option Written → Bool
writes_step writing None = true
writes_step writing (Some w) = is_step_done writing

-- what is shown is right in each respect before this one, and not in this one
pub record IsFirstWrong (k : Setting) (earlier : List Row) (s : Shown) (kind : Kind) : Type 0 where
  pub so_far : (other : Kind) → number_of other < number_of kind → IsRight k earlier s other
  pub wrong : IsRight k earlier s kind → ⊥

-- of a row that moves rightly behind rows that go on: right from its holds to its stop, or the first respect in which it is not
abbrev pub TellsRow : Setting → List Row → Row → Option Fault → Type 0
TellsRow k earlier row None = HoldsRightly k earlier row × FetchesRightly k earlier row × SucceedsRightly k earlier row × WritesUnit k earlier row × StopsInPlace k earlier row
TellsRow k earlier row (Some fault.Moves) = ⊥
TellsRow k earlier row (Some fault.Hold) = HoldsRightly k earlier row → ⊥
TellsRow k earlier row (Some fault.Fetch) = HoldsRightly k earlier row × (FetchesRightly k earlier row → ⊥)
TellsRow k earlier row (Some fault.Successor) = HoldsRightly k earlier row × FetchesRightly k earlier row × (SucceedsRightly k earlier row → ⊥)
TellsRow k earlier row (Some fault.Unit) = HoldsRightly k earlier row × FetchesRightly k earlier row × SucceedsRightly k earlier row × (WritesUnit k earlier row → ⊥)
TellsRow k earlier row (Some fault.Stop) = HoldsRightly k earlier row × FetchesRightly k earlier row × SucceedsRightly k earlier row × WritesUnit k earlier row × (StopsInPlace k earlier row → ⊥)
TellsRow k earlier row (Some fault.Commit) = ⊥
TellsRow k earlier row (Some fault.Write) = ⊥

-- of a row that moves rightly behind a stop, which is not right: the first respect in which it is not
abbrev pub TellsBehind : Setting → List Row → Row → Fault → Type 0
TellsBehind k earlier row fault.Moves = ⊥
TellsBehind k earlier row fault.Hold = HoldsRightly k earlier row → ⊥
TellsBehind k earlier row fault.Fetch = HoldsRightly k earlier row × (FetchesRightly k earlier row → ⊥)
TellsBehind k earlier row fault.Successor = HoldsRightly k earlier row × FetchesRightly k earlier row × (SucceedsRightly k earlier row → ⊥)
TellsBehind k earlier row fault.Unit = HoldsRightly k earlier row × FetchesRightly k earlier row × SucceedsRightly k earlier row × (WritesUnit k earlier row → ⊥)
TellsBehind k earlier row fault.Stop = HoldsRightly k earlier row × FetchesRightly k earlier row × SucceedsRightly k earlier row × WritesUnit k earlier row
TellsBehind k earlier row fault.Commit = ⊥
TellsBehind k earlier row fault.Write = ⊥

-- of the lines of its writes
abbrev pub TellsLines : Setting → List Row → Shown → Option Fault → Type 0
TellsLines k earlier s None = RetiresRightly k earlier s × WritesRightly k earlier s
TellsLines k earlier s (Some fault.Moves) = ⊥
TellsLines k earlier s (Some fault.Hold) = ⊥
TellsLines k earlier s (Some fault.Fetch) = ⊥
TellsLines k earlier s (Some fault.Successor) = ⊥
TellsLines k earlier s (Some fault.Unit) = ⊥
TellsLines k earlier s (Some fault.Stop) = ⊥
TellsLines k earlier s (Some fault.Commit) = RetiresRightly k earlier s → ⊥
TellsLines k earlier s (Some fault.Write) = RetiresRightly k earlier s × (WritesRightly k earlier s → ⊥)

-- what is kept goes on where the row is right in each respect; else it is told in which it is not
abbrev pub Judges : Against → List Row → Shown → Watch → Result (Option Fault) Memory → Type 0
Judges a rows s w (Ok None) = IsAllRight (setting_of a) rows s × IsWatched a (row_of (setting_of a) rows s ∷ rows) w
Judges a rows s w (Ok (Some f)) = IsFirstWrong (setting_of a) rows s (kind_of f)
Judges a rows s w (Err e) = Unit {0}
