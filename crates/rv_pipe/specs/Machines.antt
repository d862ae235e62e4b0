-- A pipeline as it stands between two rows, and a machine: such a pipeline with its rows, beside which the modules of its design run; and what ties what they keep to what their callers see
-- (this project's choice). Rows are listed from the newest.
use Rattle.std.specs.Prelude.{◌≡◌, ℕ, ◌+◌, ◌^◌, ◌<◌, ◌≤◌, List, [], ◌∷◌, length}
use Rattle.ix_extension.specs.WellFormed.{IsWellFormed}
use Rattle.ix_eval.specs.Scratches.{IsScratchOf}
use Rattle.ix_eval.specs.declared.scratch.Scratch.{Scratch}
use Rattle.ix_sheet.specs.Sheets.{IsValidSheet}
use Rattle.rv_trace.specs.declared.row.Row.{Row}
use Rattle.rv_asks.specs.Asks.{IsAskingOf}
use Rattle.rv_asks.specs.declared.asking.Asking.{Asking}
use Rattle.rv_engine.specs.declared.front.Kept.{Kept}
use Rattle.rv_engine.specs.Owing.{IsOwingOf}
use Rattle.rv_engine.specs.Settings.{Setting, Machine, shape_of, tree_of}
use Rattle.rv_engine.specs.Showing.{shown_of}
use Rattle.rv_engine.specs.Kept.{machine_of, IsFit}
use Rattle.rv_machine.specs.Running.{AreRows, machine_at}
use Rattle.rv_nets.specs.Modules.{Driver, Reached}
use Rattle.rv_ports.specs.declared.shown.Shown.{Shown}

-- a pipeline as its callers see it: what it runs on, and what it keeps between rows
pub record Between : Type 0 where
  pub setting : Setting
  pub machine : Machine

-- what the code keeps between rows fits the setting, and its counts are at most that of the rows
pub record IsSteady (k : Setting) (asking : Asking) (scratch : Scratch) (kept : Kept) : Type 0 where
  pub well_formed : IsWellFormed k.design.extension
  pub sheet : IsValidSheet k.design.sheet
  pub asked : IsAskingOf k.design asking
  pub ready : IsScratchOf (tree_of k) scratch
  pub few : kept.front.next ≤ kept.front.rows
  pub few_accesses : kept.front.accesses ≤ kept.front.rows
  pub few_stood : kept.front.stood ≤ kept.front.rows
  pub fit : IsFit k (machine_of (shape_of k) kept)
  pub owing : IsOwingOf k.design kept.owing

-- a machine as its callers see it: what it runs on, its rows, for how many more there is room, and the modules beside it
pub record Running : Type 0 where
  pub setting : Setting
  pub rows : List Row
  pub spare : ℕ
  pub modules : List Driver

-- what each row shows the modules
abbrev pub shown_over : Setting → List Row → List Shown
shown_over k [] = []
shown_over k (row ∷ earlier) = shown_of k (machine_at k earlier) ∷ shown_over k earlier

-- the pipeline is the machine after these rows, with room for so many more, its modules took a step in each, and its setting is no judge's
pub record IsSound (k : Setting) (m : Machine) (rows : List Row) (spare : ℕ) (modules : List Driver) : Type 0 where
  pub plain : k.places ≡ []
  pub room : length rows + spare < 2 ^ 32
  pub count : m.rows ≡ length rows
  pub machine : m ≡ machine_at k rows
  pub are_rows : AreRows k rows
  pub nets : length k.design.plans ≡ length k.design.nets
  pub reached : Reached k.design (shown_over k rows) modules
