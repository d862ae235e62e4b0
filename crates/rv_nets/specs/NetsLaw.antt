-- The states that modules come to are those of runs of their nets (this project's choice).
use Rattle.std.specs.Prelude.{◌≡◌, ℕ, zero, suc, List, [], ◌∷◌, ◌++◌, length, map, Some, slice_get}
use Rattle.ix_net.specs.declared.netlist.Net.{Net}
use Rattle.ix_net.specs.Run.{IsRun}
use Rattle.ix_net.specs.Valuation.{inputs_of}
use Rattle.ix_plan.specs.declared.design.Design.{Design}
use Rattle.ix_plan.specs.declared.design.Plan.{Plan}
use Rattle.rv_ports.specs.declared.modules.Module.{Module}
use Rattle.rv_ports.specs.declared.shown.Shown.{Shown}
use Rattle.rv_ports.specs.Inputs.{inputs_by}
use Rattle.rv_ports.specs.Driven.{port_values}
use Rattle.rv_nets.specs.Modules.{Driver, module_at, drivers_of, AllStep, Reached, ports_shown}

-- the inputs of a module in the cycles of rows that show this, the newest first; the cycles are listed from the oldest
abbrev pub inputs_with : Module → Plan → List Shown → List (List ℕ)
inputs_with m p [] = []
inputs_with m p (w ∷ earlier) = inputs_with m p earlier ++ inputs_by m p w ∷ []

-- there is a run of each net, one cycle for each row, in which its inputs are what the rows drive
pub record HaveRun (d : Design) (shown : List Shown) (runs : List (List (List ℕ))) : Type 0 where
  pub count : length runs ≡ length d.nets
  pub run : (n : ℕ) (p : Plan) (net : Net) (cycles : List (List ℕ)) → slice_get d.plans n ≡ Some p → slice_get d.nets n ≡ Some net → slice_get runs n ≡ Some cycles → IsRun net cycles
  pub inputs : (n : ℕ) (p : Plan) (net : Net) (cycles : List (List ℕ)) → slice_get d.plans n ≡ Some p → slice_get d.nets n ≡ Some net → slice_get runs n ≡ Some cycles →
      map (inputs_of net) cycles ≡ inputs_with (module_at d n p) p shown

-- the modules show at their ports what the newest cycle of such runs does
abbrev pub NetsLaw : Type 0
NetsLaw =
    (d : Design) (w : Shown) (earlier : List Shown) (drivers : List Driver) → length d.plans ≡ length d.nets → Reached d (w ∷ earlier) drivers →
    (runs : List (List (List ℕ))) × HaveRun d (w ∷ earlier) runs × (port_values d.nets runs (length earlier) ≡ ports_shown drivers)

-- the modules come to these through rows that show this, the newest first, and what their ports showed row by row is this, the oldest first
abbrev pub ReachedBy : Design → List Shown → List Driver → List (List ℕ) → Type 0
ReachedBy d [] drivers rows = (drivers ≡ drivers_of d) × (rows ≡ [])
ReachedBy d (w ∷ earlier) drivers rows = (before : List Driver) × (past : List (List ℕ)) × ReachedBy d earlier before past × AllStep w before drivers × (rows ≡ past ++ ports_shown drivers ∷ [])

-- what the ports of all modules show in each of so many cycles, the oldest first
abbrev pub port_rows : List Net → List (List (List ℕ)) → ℕ → List (List ℕ)
port_rows nets runs zero = []
port_rows nets runs (suc n) = port_rows nets runs n ++ port_values nets runs n ∷ []

-- one list of runs shows in each cycle what the modules showed in the row
abbrev pub AllRowsLaw : Type 0
AllRowsLaw =
    (d : Design) (shown : List Shown) (drivers : List Driver) (rows : List (List ℕ)) → length d.plans ≡ length d.nets → ReachedBy d shown drivers rows →
    (runs : List (List (List ℕ))) × HaveRun d shown runs × (port_rows d.nets runs (length shown) ≡ rows)
