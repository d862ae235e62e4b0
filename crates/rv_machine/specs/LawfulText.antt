-- The text of lawful rows of a pipeline with an extension (this project's choice): the lines of each row, and the state behind the last one.
use Rattle.std.specs.Prelude.{◌≡◌, ℕ, ◌≤◌, List, ◌++◌, length, reverse, Option, None}
use Rattle.ix_extension.specs.Extensions.{view_extension}
use Rattle.ix_plan.specs.declared.design.Design.{Design}
use Rattle.rv_trace.specs.declared.row.Row.{Row}
use Rattle.rv_trace.specs.Trace.{newest}
use Rattle.rv_trace.specs.TraceText.{trace_text}
use Rattle.rv_text.specs.RunText.{state_text}
use Rattle.rv_lawful.specs.Settings.{setting}
use Rattle.rv_lawful.specs.Entering.{places}
use Rattle.rv_lawful.specs.Outstanding.{architecture, outstanding_targets}
use Rattle.rv_lawful.specs.Headline.{Headline}

-- the text of rows which the headline holds of on the core of a design, whose memory has these waits and whose interrupt line is raised in these rows, where there is one, as many as the cycles, or fewer where the last one has a stop, and of
-- the state after them
pub record IsLawfulText (d : Design) (image waits : List ℕ) (lines : Option (List ℕ)) (cycles : ℕ) (text : List ℕ) : Type 0 where
  pub rows : List Row
  pub headline : Headline d image waits lines rows
  pub few : length rows ≤ cycles
  pub whole : (newest rows).stop ≡ None → length rows ≡ cycles
  pub text_is : text ≡ trace_text d.sheet.shape.stages 0 (reverse rows) ++ state_text (view_extension d.extension) (outstanding_targets (setting d image waits lines (places rows)) rows) (architecture (view_extension d.extension) (setting d image waits lines (places rows)) rows)
