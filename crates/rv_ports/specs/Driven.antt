-- Nets that are driven by the rows of a trace, and what their ports show (this project's choice). Rows are listed from the newest, cycles from the oldest.
use Rattle.std.specs.Prelude.{◌≡◌, ℕ, List, [], ◌∷◌, ◌++◌, map, length, Some, slice_get}
use Rattle.std.specs.List.{flat_map, zip}
use Rattle.ix_net.specs.declared.netlist.Net.{Net}
use Rattle.ix_net.specs.declared.netlist.Port.{Port}
use Rattle.ix_net.specs.Run.{IsRun, cycle_at}
use Rattle.ix_net.specs.Valuation.{inputs_of, value_of}
use Rattle.ix_plan.specs.declared.design.Plan.{Plan}
use Rattle.rv_trace.specs.declared.row.Row.{Row}
use Rattle.rv_lawful.specs.Entering.{places}
use Rattle.rv_ports.specs.Drives.{Drives}
use Rattle.rv_ports.specs.Seats.{shown_by}
use Rattle.rv_ports.specs.Inputs.{module_of, inputs_by}

-- what drives the modules in a row, where the run goes to the handler at these places
abbrev pub Driving : Type 0
Driving = List ℕ → Drives

-- the inputs of the module of the behaviour with this number and this plan in the cycles of these rows, the oldest first: in each row those that it drives where the run goes to the
-- handler at the places that the rows before it name
unfoldable pub inputs_over : Driving → ℕ → Plan → List Row → List (List ℕ)
inputs_over by n p [] = []
inputs_over by n p (row ∷ earlier) = inputs_over by n p earlier ++ inputs_by (module_of (by (places earlier)) n p) p (shown_by (by (places earlier)) earlier row) ∷ []

-- these cycles are a run of the net, one for each row, in which its inputs are what the row drives
pub record IsDriven (by : Driving) (n : ℕ) (p : Plan) (net : Net) (rows : List Row) (cycles : List (List ℕ)) : Type 0 where
  pub run : IsRun net cycles
  pub inputs : map (inputs_of net) cycles ≡ inputs_over by n p rows

-- the net of each behaviour, which has one of these plans, has such a run
pub record AreDriven (by : Driving) (plans : List Plan) (nets : List Net) (rows : List Row) (runs : List (List (List ℕ))) : Type 0 where
  pub count : length runs ≡ length nets
  pub each : (n : ℕ) (p : Plan) (net : Net) (cycles : List (List ℕ)) → slice_get plans n ≡ Some p → slice_get nets n ≡ Some net → slice_get runs n ≡ Some cycles →
      IsDriven by n p net rows cycles

-- Ports

-- the ports of a module: its inputs, then its outputs
abbrev pub ports_in : Net → List Port
ports_in net = net.inputs ++ net.outputs

-- the ports of all modules by number, in the order of the nets
abbrev pub ports_of : List Net → List Port
ports_of nets = flat_map ports_in nets

-- what the ports of a module show in a cycle with these values of its names
abbrev pub values_in : Net → List ℕ → List ℕ
values_in net values = map (λ (p : Port). value_of net values p.name) (ports_in net)

-- what the ports of all modules show in the cycle with this number, from 0
abbrev pub port_values : List Net → List (List (List ℕ)) → ℕ → List ℕ
port_values nets runs i = flat_map (λ n. values_in n.0 (cycle_at n.1 i)) (zip nets runs)
