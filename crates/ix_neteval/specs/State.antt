-- A net as it runs.
use Rattle.std.specs.Prelude.{ℕ, ◌≡◌, ◌<◌, List, Bool, true, map, length, replicate}
use Rattle.ix_net.specs.declared.netlist.Net.{Net}
use Rattle.ix_net.specs.declared.wires.Wiring.{Wiring}
use Rattle.ix_net.specs.Run.{first_banks}
use Rattle.ix_net.specs.Signals.{signals, bank_port}
use Rattle.ix_net.specs.Valid.{IsValid}
use Rattle.ix_net.specs.Valuation.{FitPorts}
use Rattle.ix_net.specs.Wiring.{IsWiring}
use Rattle.ix_neteval.specs.Wired.{GateHolds}

-- a net with the values of its banks, and those of its signals as they were last settled
pub record State : Type 0 where
  pub net : Net
  pub banks : List ℕ
  pub values : List ℕ

-- a net before its first cycle: all is 0
abbrev pub first_state : Net → State
first_state net = record { net = net; banks = first_banks net; values = replicate (length (signals net)) 0 }

-- a valid net with its wiring, with values within their widths, and with a mark for each signal; once it is settled, each cell has the value of its right side
pub record IsState (net : Net) (wiring : Wiring) (banks values : List ℕ) (marks : List Bool) (settled : Bool) : Type 0 where
  pub valid : IsValid net
  pub wired : IsWiring net wiring
  pub banks_fit : FitPorts (map bank_port net.banks) banks
  pub values_fit : FitPorts (signals net) values
  pub marks_are : length marks ≡ length (signals net)
  pub holding : settled ≡ true → (k : ℕ) → k < length wiring.gates.items → GateHolds (length net.inputs) wiring.gates.items wiring.widths.items values k
