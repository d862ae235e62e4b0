-- What a promise on outputs is put together from: a token that is watched has had a life in the module, and in that life the inputs carried the values of the run
-- (SCAIE-V; that the run is the sequential one is this project's choice).
use Rattle.std.specs.Prelude.{◌≡◌, ◌≢◌, ℕ, ◌+◌, ◌<◌, ◌≤◌, List, ◌∷◌, ◌++◌, length, Option, Some, ◌⊎◌, slice_get, slice_index}
use Rattle.ix_graph_laws.specs.GraphEffects.{values_under}
use Rattle.ix_net.specs.declared.netlist.Net.{Net}
use Rattle.ix_net.specs.Run.{cycle_at}
use Rattle.ix_plan.specs.declared.design.Design.{Design}
use Rattle.ix_plan.specs.declared.design.Plan.{Plan}
use Rattle.ix_plan.specs.Service.{IsLife, Carries}
use Rattle.rv_engine.specs.Settings.{setting}
use Rattle.rv_lawful.specs.Entering.{places}
use Rattle.rv_lawful.specs.Settings.{Stands}
use Rattle.rv_machine.specs.Promises.{IsRunnable}
use Rattle.rv_machine.specs.Running.{AreRows}
use Rattle.rv_seq.specs.Runs.{run_with}
use Rattle.rv_seq.specs.States.{inputs_at}
use Rattle.rv_trace.specs.declared.row.Cell.{Cell}
use Rattle.rv_trace.specs.declared.row.Row.{Row}
use Rattle.rv_trace.specs.Trace.{place}
use Rattle.rv_ports.specs.declared.modules.Module.{Module}
use Rattle.rv_ports.specs.Drives.{Drives, drives_of}
use Rattle.rv_ports.specs.Driven.{IsDriven, AreDriven}
use Rattle.rv_ports.specs.Inputs.{module_of}
use Rattle.rv_ports.specs.Seats.{time_of}
use Rattle.rv_machine.specs.Promise.{IsInStage, IsInUnit, AllPromised}

-- a cell with this serial and word at this time, in a stage, of whatever behaviour
pub record IsCellAt (d : Drives) (earlier : List Row) (row : Row) (s word t : ℕ) : Type 0 where
  pub stage : ℕ
  pub cell : Cell
  pub stands : Stands d.setting row stage cell
  pub serial : cell.serial ≡ s
  pub word_is : cell.word ≡ word
  pub time : time_of d.setting earlier stage cell ≡ t

-- a token at this time, in a stage or in the unit of the behaviour
abbrev pub IsTokenAt : Drives → Module → List Row → Row → ℕ → ℕ → ℕ → Type 0
IsTokenAt d m earlier row s word t = IsCellAt d earlier row s word t ⊎ IsInUnit d m earlier row t s word

-- a token of the behaviour of which its outputs are promised
pub record IsWatchedCell (d : Drives) (m : Module) (earlier : List Row) (row : Row) (s word t : ℕ) : Type 0 where
  pub cell : Cell
  pub in_stage : IsInStage d m earlier row t cell
  pub serial : cell.serial ≡ s
  pub word_is : cell.word ≡ word

abbrev pub IsWatched : Drives → Module → List Row → Row → ℕ → ℕ → ℕ → Type 0
IsWatched d m earlier row s word t = IsWatchedCell d m earlier row s word t ⊎ IsInUnit d m earlier row t s word

-- the module's cycles are a life of the token up to the newest row, and in each cycle of it the token is there
pub record HasLife (d : Drives) (m : Module) (net : Net) (rows : List Row) (cycles : List (List ℕ)) (s word t : ℕ) : Type 0 where
  pub first : ℕ
  pub life : List ℕ
  pub before : ℕ
  pub long : length life ≡ before + 1
  pub reaches : first + length life ≡ length rows
  pub is : IsLife net m.shape.rd cycles first life
  pub last : slice_index life before ≡ t
  pub each : (j : ℕ) (newer older : List Row) (row : Row) → j < length life → rows ≡ newer ++ (row ∷ older) → length older ≡ first + j → IsTokenAt d m older row s word (slice_index life j)

-- a behaviour of a design whose net is driven by rows, with an interrupt line or without one
pub record IsDrivenBy (d : Design) (image waits : List ℕ) (lines : Option (List ℕ)) (n : ℕ) (p : Plan) (net : Net) (rows : List Row) (cycles : List (List ℕ)) : Type 0 where
  pub runnable : IsRunnable d image
  pub are_rows : AreRows (setting d image waits lines) rows
  pub plan : slice_get d.plans n ≡ Some p
  pub net_is : slice_get d.nets n ≡ Some net
  pub driven : IsDriven (drives_of d image waits lines) n p net rows cycles

-- each token that is watched has had a life, from RD to the last time of its behaviour, as the newest row is judged
abbrev pub LivesLaw : Type 0
LivesLaw =
    (d : Design) (image waits : List ℕ) (lines : Option (List ℕ)) (n : ℕ) (p : Plan) (net : Net) (row : Row) (earlier : List Row) (cycles : List (List ℕ)) →
    IsDrivenBy d image waits lines n p net (row ∷ earlier) cycles →
    (s word t : ℕ) → IsWatched (drives_of d image waits lines (places earlier)) (module_of (drives_of d image waits lines (places earlier)) n p) earlier row s word t → d.sheet.shape.rd ≤ t → t ≤ p.last →
    HasLife (drives_of d image waits lines (places earlier)) (module_of (drives_of d image waits lines (places earlier)) n p) net (row ∷ earlier) cycles s word t

-- the inputs of a time carry the values of a word's behaviour at a place of the run
abbrev pub CarriesRun : Drives → Plan → Net → List ℕ → ℕ → ℕ → ℕ → Type 0
CarriesRun d p net values t word k =
    Carries d.setting.shape p.graph p.times net (values_under p.graph (inputs_at word (run_with d.extension d.setting.image d.setting.entries k))) t values

-- of a token that is watched the inputs carry the run's values: now, from EX on, and in each row as which it left a time
pub record HasRead (d : Drives) (m : Module) (p : Plan) (net : Net) (earlier : List Row) (row : Row) (cycles : List (List ℕ)) (s word t : ℕ) : Type 0 where
  pub now : m.shape.ex ≤ t → CarriesRun d p net (cycle_at cycles (length earlier)) t word (place (row ∷ earlier) s)
  pub left : (newer older : List Row) (next past : Row) (u v : ℕ) → row ∷ earlier ≡ newer ++ (next ∷ past ∷ older) →
      IsTokenAt d m older past s word u → IsTokenAt d m (past ∷ older) next s word v → u ≢ v →
      CarriesRun d p net (cycle_at cycles (length older)) u word (place (row ∷ earlier) s)

-- so for each token that is watched
abbrev pub ReadsLaw : Type 0
ReadsLaw =
    (d : Design) (image waits : List ℕ) (lines : Option (List ℕ)) (n : ℕ) (p : Plan) (net : Net) (row : Row) (earlier : List Row) (cycles : List (List ℕ)) →
    IsDrivenBy d image waits lines n p net (row ∷ earlier) cycles →
    (s word t : ℕ) → IsWatched (drives_of d image waits lines (places earlier)) (module_of (drives_of d image waits lines (places earlier)) n p) earlier row s word t →
    HasRead (drives_of d image waits lines (places earlier)) (module_of (drives_of d image waits lines (places earlier)) n p) p net earlier row cycles s word t

-- nets that are driven by the rows of a machine keep what is promised of their outputs
abbrev pub PromiseLaw : Type 0
PromiseLaw =
    (d : Design) (image waits : List ℕ) (lines : Option (List ℕ)) (rows : List Row) (runs : List (List (List ℕ))) → IsRunnable d image → AreRows (setting d image waits lines) rows →
    AreDriven (drives_of d image waits lines) d.plans d.nets rows runs → AllPromised (drives_of d image waits lines) d.plans d.nets rows runs
