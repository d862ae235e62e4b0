-- What an audit answers (this project's choice).
use Rattle.std.specs.Prelude.{◌≡◌, ◌⊎◌, ℕ, ◌+◌, List, [], map, take, drop, Option, Result, Ok, Err, if◌then◌else◌, is_some, ⊤}
use Rattle.ix_extension.specs.Extensions.{view_extension}
use Rattle.ix_plan.specs.declared.design.Design.{Design}
use Rattle.rv_shown.specs.declared.shown.ShownRow.{ShownRow}
use Rattle.rv_shown.specs.Shown.{Shown, shown_in}
use Rattle.rv_reader.specs.declared.read.ReadErr.{ReadErr}
use Rattle.rv_reader.specs.declared.read.ReadErr.TheVariants as read_err
use Rattle.rv_reader.specs.declared.read.TraceRead.{TraceRead}
use Rattle.rv_reader.specs.Traces.{IsBadLine, line_numbers, line_behind}
use Rattle.rv_rows.specs.Kinds.{of_moves, of_hold, of_fetch, of_successor, of_unit, of_stop, of_commit, of_write}
use Rattle.rv_watch.specs.Printed.{widths_of}
use Rattle.rv_watch.specs.Faults.{rows_behind, AreAllRight, IsReadAs, IsRowFault, IsStateFault}
use Rattle.rv_watch.specs.declared.against.Against.{Against}
use Rattle.rv_watch.specs.declared.watch.Watch.{Watch}
use Rattle.rv_watch.specs.Watched.{setting_of, IsWatched}
use Rattle.rv_audit.specs.declared.judging.Fault.{Fault}
use Rattle.rv_audit.specs.declared.judging.Fault.TheVariants as fault
use Rattle.rv_audit.specs.declared.auditing.AuditErr.{AuditErr}
use Rattle.rv_audit.specs.declared.auditing.AuditErr.TheVariants.{Line, Moves, Hold, Fetch, Successor, Unit as unit_fault, Stop, Commit, Write, State, Memory}

-- the text is refused for this
abbrev pub IsFault : Design → List ℕ → List ℕ → List ℕ → AuditErr → Type 0
IsFault d image waits text (Line n) = IsBadLine (widths_of (view_extension d.extension)) d.sheet.shape.stages text n
IsFault d image waits text (Moves n) = IsRowFault d image waits text of_moves n
IsFault d image waits text (Hold n) = IsRowFault d image waits text of_hold n
IsFault d image waits text (Fetch n) = IsRowFault d image waits text of_fetch n
IsFault d image waits text (Successor n) = IsRowFault d image waits text of_successor n
IsFault d image waits text (unit_fault n) = IsRowFault d image waits text of_unit n
IsFault d image waits text (Stop n) = IsRowFault d image waits text of_stop n
IsFault d image waits text (Commit n) = IsRowFault d image waits text of_commit n
IsFault d image waits text (Write n) = IsRowFault d image waits text of_write n
IsFault d image waits text (State n) = IsStateFault d image waits text n
IsFault d image waits text Memory = ⊥

-- an error but want of memory is what the text is refused for
abbrev pub TellsFault : Design → List ℕ → List ℕ → List ℕ → AuditErr → Type 0
TellsFault d image waits text e = IsFault d image waits text e ⊎ (e ≡ Memory)

-- what a text is refused for is the answer, or want of memory
abbrev pub IsRefusedFor : AuditErr → Result ⊤ AuditErr → Type 0
IsRefusedFor e (Ok x) = ⊥
IsRefusedFor e (Err f) = (f ≡ e) ⊎ (f ≡ Memory)

-- ---- while a text is judged
-- the error for what is not read
abbrev pub unread : ReadErr → AuditErr
unread (read_err.Line n) = Line n
unread read_err.Memory = Memory

-- the error for a fault of the row whose line has this number, and which retires this
abbrev pub refused_for : Fault → ℕ → Option ℕ → AuditErr
refused_for fault.Moves line retired = Moves line
refused_for fault.Hold line retired = Hold line
refused_for fault.Fetch line retired = Fetch line
refused_for fault.Successor line retired = Successor line
refused_for fault.Unit line retired = unit_fault line
refused_for fault.Stop line retired = Stop line
refused_for fault.Commit line retired = Commit (line + 1)
refused_for fault.Write line retired = Write (if is_some retired then line + 2 else line + 1)

-- the rows that were read, as they are shown
abbrev pub rows_shown : Design → List ℕ → List ShownRow → List Shown
rows_shown d text rows = map (shown_in d.sheet.shape.stages text) rows

-- this was read of the text
pub record IsReadOf (d : Design) (text : List ℕ) (read : TraceRead) : Type 0 where
  pub trace : IsReadAs d text (rows_shown d text read.rows) (drop read.state text)
  pub lines : read.lines ≡ line_numbers 1 read.rows
  pub state_line : read.state_line ≡ line_behind 1 read.rows

-- the first so many rows are right in each respect, and this is kept of them
pub record AreRightTo (a : Against) (text : List ℕ) (rows : List ShownRow) (n : ℕ) (w : Watch) : Type 0 where
  pub right : AreAllRight (setting_of a) [] (rows_shown a.design.now text (take n rows))
  pub watched : IsWatched a (rows_behind (setting_of a) [] (rows_shown a.design.now text (take n rows))) w
