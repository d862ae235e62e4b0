-- What is printed of lawful rows that show the run, and of the state behind them, is the text of a trace (this project's choice). There is no interrupt line.
use Rattle.std.specs.Prelude.{◌≡◌, ℕ, ◌<◌, ◌≤◌, ◌^◌, List, [], ◌++◌, length, map, reverse, Some, None}
use Rattle.ix_tree.specs.declared.extension.Register.{Register}
use Rattle.ix_extension.specs.Extensions.{ExtensionTree, view_extension}
use Rattle.ix_plan.specs.declared.design.Design.{Design}
use Rattle.ix_standing.specs.Standing.{Stands}
use Rattle.rv_seq.specs.Steps.{word_at}
use Rattle.rv_waits.specs.Waits.{wait_at}
use Rattle.rv_trace.specs.declared.row.Row.{Row}
use Rattle.rv_trace.specs.TraceText.{trace_text}
use Rattle.rv_text.specs.RunText.{state_text}
use Rattle.rv_lawful.specs.Settings.{Setting, setting}
use Rattle.rv_lawful.specs.Outstanding.{architecture, outstanding_targets}
use Rattle.rv_lawful.specs.LawfulTrace.{Lawful}
use Rattle.rv_shown.specs.Shown.{shown_of}
use Rattle.rv_reader.specs.Traces.{IsTrace}
use Rattle.rv_rows.specs.Recorded.{AreRecorded}

-- the widths of the custom registers, in their order
abbrev pub width_of : Register → ℕ
width_of r = r.ty.width

abbrev pub widths_of : ExtensionTree → List ℕ
widths_of x = map width_of x.registers

-- what rows of a design's core are judged against, over an image and the waits of a memory
abbrev pub plain : Design → List ℕ → List ℕ → Setting
plain d image waits = setting d image waits None []

-- the text of the state behind rows
abbrev pub state_behind : Design → List ℕ → List ℕ → List Row → List ℕ
state_behind d image waits rows =
    state_text (view_extension d.extension) (outstanding_targets (plain d image waits) rows) (architecture (view_extension d.extension) (plain d image waits) rows)

-- words of 32 bits in the image, and no access waits for more than 255 rows
pub record AreGiven (image waits : List ℕ) : Type 0 where
  pub words : (at word : ℕ) → word_at image at ≡ Some word → word < 2 ^ 32
  pub short : (n : ℕ) → wait_at waits n ≤ 255

-- lawful rows, fewer than 2^31, are printed as the text of a trace
abbrev pub PrintedLaw : Type 0
PrintedLaw =
    (d : Design) (image waits : List ℕ) (rows : List Row) → Stands d → AreGiven image waits → Lawful (λ places. plain d image waits) rows → AreRecorded (plain d image waits) rows → length rows < 2 ^ 31
    → IsTrace (widths_of (view_extension d.extension)) d.sheet.shape.stages (trace_text d.sheet.shape.stages 0 (reverse rows) ++ state_behind d image waits rows) (map (shown_of d.sheet.shape.stages) (reverse rows)) (state_behind d image waits rows)
