-- How much of a dump has gone to a sink while its rows are made (this project's choice). Rows are listed from the newest, what the ports showed from the oldest.
use Rattle.std.specs.Prelude.{◌≡◌, ℕ, ◌≤◌, List, [], length, Option, None, Bool, true, false}
use Rattle.ix_bits.specs.declared.number.Bits.{Bits}
use Rattle.ix_dump.specs.Dump.{dump_text, raws, row_before}
use Rattle.ix_dump.specs.Laws.{last_row}
use Rattle.ix_dump.specs.Parts.{Passes}
use Rattle.ix_io.specs.Faults.{Rose}
use Rattle.ix_io.specs.Sink.{Appends, AppendsFront}
use Rattle.rv_trace.specs.declared.row.Row.{Row}
use Rattle.rv_engine.specs.Settings.{Setting}
use Rattle.rv_nets.specs.Modules.{Driver}
use Rattle.rv_nets.specs.NetsLaw.{ReachedBy}
use Rattle.rv_pipe.specs.Machines.{shown_over}

-- the modules came to these through rows that showed this at their ports, whose dump has passed, but for what waits; `before` has the values of the last row
pub record HasPassed (k : Setting) (rows : List Row) (modules : List Driver) (before : List Bits) (first now : Option (List ℕ)) (waits : List ℕ) (faults faults_now : ℕ) : Type 0 where
  pub values : List (List ℕ)
  pub reached : ReachedBy k.design (shown_over k rows) modules values
  pub last : last_row None values ≡ row_before (length values) (raws before)
  pub passes : Passes first now [] waits (dump_text k.design.nets values)
  pub never_fell : faults ≤ faults_now

-- a write failed, and a front of their dump was sent
pub record HasBroken (k : Setting) (rows : List Row) (modules : List Driver) (first now : Option (List ℕ)) (faults faults_now : ℕ) : Type 0 where
  pub values : List (List ℕ)
  pub reached : ReachedBy k.design (shown_over k rows) modules values
  pub front : AppendsFront first now (dump_text k.design.nets values)
  pub rose : Rose faults faults_now

-- one or the other, as no write failed so far or one did
abbrev pub IsSent : Bool → Setting → List Row → List Driver → List Bits → Option (List ℕ) → Option (List ℕ) → List ℕ → ℕ → ℕ → Type 0
IsSent true k rows modules before first now waits faults faults_now = HasPassed k rows modules before first now waits faults faults_now
IsSent false k rows modules before first now waits faults faults_now = HasBroken k rows modules first now faults faults_now

-- their whole dump was sent
pub record HasEnded (k : Setting) (rows : List Row) (modules : List Driver) (first now : Option (List ℕ)) : Type 0 where
  pub values : List (List ℕ)
  pub reached : ReachedBy k.design (shown_over k rows) modules values
  pub appends : Appends first now (dump_text k.design.nets values)

-- it was, or a write failed
abbrev pub IsEnded : Bool → Setting → List Row → List Driver → Option (List ℕ) → Option (List ℕ) → ℕ → ℕ → Type 0
IsEnded true k rows modules first now faults faults_now = HasEnded k rows modules first now
IsEnded false k rows modules first now faults faults_now = HasBroken k rows modules first now faults faults_now
