-- Two harts in one pipeline, and what ties what is kept of them to their rows (this project's choice).
use Rattle.std.specs.Prelude.{◌≡◌, ◌≢◌, ℕ, ◌+◌, ◌^◌, ◌<◌, ◌≤◌, List, slice_get, Some, Bool, ◌&&◌}
use Rattle.std.specs.List.{flat_map}
use Rattle.ix_eval.specs.declared.scratch.Scratch.{Scratch}
use Rattle.ix_eval.specs.Scratches.{IsScratchOf}
use Rattle.ix_extension.specs.Extensions.{view_extension}
use Rattle.ix_graph.specs.declared.graph.Mode.TheVariants.{Tight}
use Rattle.ix_plan.specs.declared.design.Design.{Design}
use Rattle.ix_plan.specs.declared.design.Plan.{Plan}
use Rattle.ix_plan.specs.declared.design.Target.{Target}
use Rattle.ix_standing.specs.Standing.{Stands}
use Rattle.rv_asks.specs.Asks.{IsAskingOf}
use Rattle.rv_asks.specs.declared.asking.Asking.{Asking}
use Rattle.rv_hart_runs.specs.HartRuns.{AreWords}
use Rattle.rv_harts.specs.BarrelLaws.{PrefixLaw, StateLaw}
use Rattle.rv_harts.specs.BarrelRows.{hart_setting}
use Rattle.rv_harts.specs.HartRows.{hart_at}
use Rattle.rv_harts.specs.Harts.{Fetched}
use Rattle.rv_lawful.specs.Outstanding.{owed_targets}
use Rattle.rv_lawful.specs.Settings.{Setting}
use Rattle.rv_barrel.specs.declared.side.Side.{Side}
use Rattle.rv_barrel.specs.Sides.{IsKept}

-- as its callers see it: the design, the image of each hart, and how many rows were made, of how many
pub record Turning : Type 0 where
  pub design : Design
  pub first : List ℕ
  pub second : List ℕ
  pub made : ℕ
  pub cycles : ℕ

-- no behaviour of the design stalls the pipeline, and its last stage is at most one behind that of memory, so no slot has to wait
pub record IsTurning (d : Design) : Type 0 where
  pub near : d.sheet.shape.stages ≤ d.sheet.shape.mem + 2
  pub no_tight : (n : ℕ) (p : Plan) → slice_get d.plans n ≡ Some p → p.mode ≢ Tight

-- both harts have stopped
abbrev pub both_stopped : Turning → Bool
both_stopped t = (hart_at (hart_setting t.design t.first) 0 t.made).stopped && (hart_at (hart_setting t.design t.second) 1 t.made).stopped

-- one row later
abbrev pub one_more : Turning → Turning
one_more t = record { design = t.design; first = t.first; second = t.second; made = t.made + 1; cycles = t.cycles }

-- what is kept of each hart is what it has before the next row
pub record IsBarrel (d : Design) (first second : List ℕ) (made cycles : ℕ) (asking : Asking) (scratch : Scratch) (a b : Side) : Type 0 where
  pub stands : Stands d
  pub few : made ≤ cycles
  pub fits : cycles < 2 ^ 32
  pub asked : IsAskingOf d asking
  pub ready : IsScratchOf (view_extension d.extension) scratch
  pub one : IsKept (view_extension d.extension) (hart_setting d first) 0 made a
  pub other : IsKept (view_extension d.extension) (hart_setting d second) 1 made b

-- the outstanding targets of these, each with its serial
abbrev pub targets_owed : Setting → List Fetched → List (ℕ × Target)
targets_owed k all = flat_map (λ (c : Fetched). owed_targets k (c.serial, c.word)) all

-- what each hart of such a design retires is a prefix of the run of its image, and its state with the outstanding writes applied is that of the run
abbrev pub BarrelLaw : Type 0
BarrelLaw = (d : Design) (image : List ℕ) → Stands d → IsTurning d → AreWords image → PrefixLaw d image × StateLaw d image
