-- What is kept of the rows of a trace so far (this project's choice).
use Rattle.std.specs.Prelude.{◌≡◌, ℕ, ◌+◌, ◌≤◌, List, length, Some}
use Rattle.ix_extension.specs.Extensions.{ExtensionTree, view_extension}
use Rattle.ix_standing.specs.Standing.{Stands}
use Rattle.rv_asks.specs.declared.asks.Asks.{Asks}
use Rattle.rv_asks.specs.Asks.{IsAskingOf}
use Rattle.rv_seq.specs.declared.commit.Commit.{Commit}
use Rattle.rv_seq.specs.declared.answer.StepAnswer.{StepAnswer}
use Rattle.rv_seq.specs.declared.answer.StepAnswer.TheVariants.{Done, Stopped}
use Rattle.rv_trace.specs.declared.row.Row.{Row}
use Rattle.rv_trace.specs.Trace.{newest, retirements}
use Rattle.rv_lawful.specs.Settings.{Setting}
use Rattle.rv_lawful.specs.LawfulTrace.{Lawful}
use Rattle.rv_rows.specs.Recorded.{AreRecorded}
use Rattle.rv_watch.specs.Fit.{plain_setting}
use Rattle.rv_past.specs.declared.due.Due.{Due}
use Rattle.rv_watch.specs.Kept.{IsKept}
use Rattle.rv_watch.specs.Seen.{AreSeen}
use Rattle.rv_past.specs.Steps.{AreSteps}
use Rattle.rv_owing.specs.Owing.{IsOwed}
use Rattle.rv_past.specs.Past.{IsPast}
use Rattle.rv_watch.specs.declared.against.Against.{Against}
use Rattle.rv_watch.specs.declared.watch.Watch.{Watch}

-- what a trace is judged against
abbrev pub setting_of : Against → Setting
setting_of a = plain_setting a.design.now a.image.now a.waits.now

abbrev pub tree_of : Against → ExtensionTree
tree_of a = view_extension a.design.now.extension

-- a design that stands, with what is asked of its instructions
pub record IsFitting (a : Against) : Type 0 where
  pub stands : Stands a.design.now
  pub asking : IsAskingOf a.design.now a.asking.now

-- so many steps of the run are known beyond what is retired
abbrev pub ahead : ℕ
ahead = 6

-- no number that is kept is above this one, and no more steps are known than that and those ahead
pub record AreAtMost (n : ℕ) (w : Watch) : Type 0 where
  pub next : w.kept.next ≤ n
  pub retired : w.kept.retired ≤ n
  pub stood : w.kept.stood ≤ n
  pub tailed : w.kept.tailed ≤ n
  pub steps : length w.steps.steps ≤ n + ahead

-- this is kept of rows that are lawful and show the run
pub record IsWatched (a : Against) (rows : List Row) (w : Watch) : Type 0 where
  pub lawful : Lawful (λ places. setting_of a) rows
  pub recorded : AreRecorded (setting_of a) rows
  pub before : w.before ≡ newest rows
  pub kept : IsKept (setting_of a) rows w.kept
  pub seen : AreSeen (setting_of a) rows w.seen.items
  pub steps : AreSteps (tree_of a) a.image.now w.steps
  pub many : retirements rows + ahead ≤ length w.steps.steps
  pub owing : IsOwed (setting_of a) rows w.owing
  pub past : IsPast (tree_of a) (setting_of a) rows w.past
  pub most : AreAtMost (length rows) w

-- what is asked of the instruction of a step; of word 0 where it stops
abbrev pub asks_by : Setting → StepAnswer → Asks
asks_by k (Done c) = k.asks c.word
asks_by k (Stopped stop) = k.asks 0

-- this is asked of the instruction that the row retires, if it retires one
abbrev pub AsksOfRetired : Setting → Row → Due → Type 0
AsksOfRetired k row due = (s : ℕ) (c : Commit) → row.retired ≡ Some (s, c) → due.asks ≡ k.asks c.word
