-- Which texts are those of lawful runs (this project's choice): some lawful rows that show what the run retires and writes have this text, and the state behind them ends it. There is
-- no interrupt line.
use Rattle.std.specs.Prelude.{◌≡◌, ℕ, List, ◌++◌, reverse}
use Rattle.ix_plan.specs.declared.design.Design.{Design}
use Rattle.rv_trace.specs.declared.row.Row.{Row}
use Rattle.rv_trace.specs.TraceText.{trace_text}
use Rattle.rv_lawful.specs.LawfulTrace.{Lawful}
use Rattle.rv_rows.specs.Recorded.{AreRecorded}
use Rattle.rv_watch.specs.Fit.{plain_setting}
use Rattle.rv_watch.specs.Printed.{state_behind}

pub record IsAudited (d : Design) (image waits text : List ℕ) : Type 0 where
  pub rows : List Row
  pub lawful : Lawful (λ places. plain_setting d image waits) rows
  pub recorded : AreRecorded (plain_setting d image waits) rows
  pub text_is : text ≡ trace_text d.sheet.shape.stages 0 (reverse rows) ++ state_behind d image waits rows
