-- What is promised of the outputs of a module that is driven by rows: they show the values of the run, wherever a token stands at their times (SCAIE-V; that the run is the sequential
-- one is this project's choice).
use Rattle.std.specs.Prelude.{◌≡◌, ℕ, ◌+◌, List, [], ◌∷◌, length, Some, false, true, slice_get}
use Rattle.ix_graph_laws.specs.GraphEffects.{values_under}
use Rattle.ix_net.specs.declared.netlist.Net.{Net}
use Rattle.ix_net.specs.Run.{cycle_at}
use Rattle.ix_plan.specs.declared.design.Plan.{Plan}
use Rattle.ix_plan.specs.Units.{Slots}
use Rattle.ix_plan.specs.Service.{Shows}
use Rattle.rv_lawful.specs.Settings.{Stands}
use Rattle.rv_lawful.specs.LawfulTrace.{IsWordOf, IsDueToStop}
use Rattle.rv_lawful.specs.Entering.{places}
use Rattle.rv_lawful.specs.Outstanding.{units_after}
use Rattle.rv_seq.specs.declared.commit.Stop.{Stop}
use Rattle.rv_seq.specs.Runs.{run_with}
use Rattle.rv_seq.specs.States.{inputs_at}
use Rattle.rv_trace.specs.declared.row.Cell.{Cell}
use Rattle.rv_trace.specs.declared.row.Row.{Row}
use Rattle.rv_trace.specs.Trace.{has_serial, place}
use Rattle.rv_ports.specs.declared.modules.Module.{Module}
use Rattle.rv_ports.specs.Drives.{Drives}
use Rattle.rv_ports.specs.Driven.{Driving}
use Rattle.rv_ports.specs.Seats.{is_silent, seat_of}
use Rattle.rv_ports.specs.Inputs.{module_of, is_token}

-- a token of the behaviour at this time, in a stage: its cell is neither flushed nor due to stop, and does not wait for what it reads
pub record IsInStage (d : Drives) (m : Module) (earlier : List Row) (row : Row) (t : ℕ) (c : Cell) : Type 0 where
  pub stage : ℕ
  pub stands : Stands d.setting row stage c
  pub token : is_token m.shape m.number m.mode (seat_of d earlier row stage c) ≡ true
  pub time : (seat_of d earlier row stage c).time ≡ t
  pub speaks : is_silent c.hold ≡ false
  pub unflushed : has_serial row.flushed c.serial ≡ false
  pub runs : (stop : Stop) → IsDueToStop d.setting (row ∷ earlier) c stop → ⊥

-- a token of the behaviour at this time, in its unit as it stands in the row, with this serial and this word
pub record IsInUnit (d : Drives) (m : Module) (earlier : List Row) (row : Row) (t s word : ℕ) : Type 0 where
  pub unit : ℕ
  pub own : m.unit ≡ Some unit
  pub slots : Slots
  pub at : slice_get (units_after d.setting earlier) unit ≡ Some slots
  pub after : ℕ
  pub time : t ≡ m.shape.stages + after
  pub stands : slice_get slots after ≡ Some (Some s)
  pub word_is : IsWordOf d.setting (row ∷ earlier) s word

-- with these values of the net's names its outputs of this time show the values of a word's behaviour at a place of the run
abbrev pub ShowsRun : Drives → Plan → Net → List ℕ → ℕ → ℕ → ℕ → Type 0
ShowsRun d p net values t word k =
    Shows p.graph p.times net (values_under p.graph (inputs_at word (run_with d.extension d.setting.image d.setting.entries k))) t values

-- so do they for each token that stands in the row
pub record IsPromised (d : Drives) (n : ℕ) (p : Plan) (net : Net) (earlier : List Row) (row : Row) (values : List ℕ) : Type 0 where
  pub in_stage : (t : ℕ) (c : Cell) → IsInStage d (module_of d n p) earlier row t c → ShowsRun d p net values t c.word (place (row ∷ earlier) c.serial)
  pub in_unit : (t s word : ℕ) → IsInUnit d (module_of d n p) earlier row t s word → ShowsRun d p net values t word (place (row ∷ earlier) s)

-- so do they in each row, by the run that goes to the handler at the places that the rows before it name
abbrev pub Promised : Driving → ℕ → Plan → Net → List Row → List (List ℕ) → Type 0
Promised by n p net [] cycles = Unit {0}
Promised by n p net (row ∷ earlier) cycles = IsPromised (by (places earlier)) n p net earlier row (cycle_at cycles (length earlier)) × Promised by n p net earlier cycles

-- so do the nets of all behaviours, which have these plans
abbrev pub AllPromised : Driving → List Plan → List Net → List Row → List (List (List ℕ)) → Type 0
AllPromised by plans nets rows runs =
    (n : ℕ) (p : Plan) (net : Net) (cycles : List (List ℕ)) → slice_get plans n ≡ Some p → slice_get nets n ≡ Some net → slice_get runs n ≡ Some cycles →
    Promised by n p net rows cycles
