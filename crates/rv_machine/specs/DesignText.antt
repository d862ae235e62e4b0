-- The text of a run of a pipeline with an extension (this project's choice): the lines of each row, and the state behind the last one.
use Rattle.std.specs.Prelude.{◌≡◌, ℕ, ◌≤◌, List, ◌++◌, length, reverse, take, None}
use Rattle.rv_trace.specs.declared.row.Row.{Row}
use Rattle.rv_trace.specs.Trace.{newest}
use Rattle.rv_trace.specs.TraceText.{trace_text}
use Rattle.rv_text.specs.RunText.{state_text}
use Rattle.rv_engine.specs.Settings.{Setting, shape_of, tree_of}
use Rattle.rv_machine.specs.Owing.{targets_owed}
use Rattle.rv_machine.specs.Running.{AreRows, machine_at}

-- so many registers can have an outstanding write: 32 of the base, and 16 custom ones
abbrev pub most_targets : ℕ
most_targets = 48

-- the text of rows of the machine, as many as the cycles, or fewer where the last one has a stop, and of the state after them
pub record IsDesignText (k : Setting) (cycles : ℕ) (text : List ℕ) : Type 0 where
  pub rows : List Row
  pub are_rows : AreRows k rows
  pub few : length rows ≤ cycles
  pub whole : (newest rows).stop ≡ None → length rows ≡ cycles
  pub text_is : text ≡ trace_text (shape_of k).stages 0 (reverse rows) ++ state_text (tree_of k) (take most_targets (targets_owed (machine_at k rows).owed)) (machine_at k rows).arch
