-- A net by number: signal i is the i-th of what the net declares.
use Rattle.std.specs.Prelude.{ℕ, ◌≡◌, ◌+◌, ◌<◌, ◌≤◌, List, Some, map, length, All}
use Rattle.ix_net.specs.declared.netlist.Net.{Net}
use Rattle.ix_net.specs.declared.netlist.Port.{Port}
use Rattle.ix_net.specs.declared.netlist.Cell.{Cell}
use Rattle.ix_net.specs.declared.netlist.Bank.{Bank}
use Rattle.ix_net.specs.declared.gates.Gate.{Gate}
use Rattle.ix_net.specs.declared.wires.Latch.{Latch}
use Rattle.ix_net.specs.declared.wires.Wiring.{Wiring}
use Rattle.ix_net.specs.Signals.{signals, place_of, width_of, number_of, bits_of}
use Rattle.ix_net.specs.Forms.{Fits}
use Rattle.ix_net.specs.Gates.{gate_of}
use Rattle.ix_net.specs.Order.{IsOrder}

-- the right side of a cell by number
abbrev pub cell_gate : List Port → Cell → Gate
cell_gate ports c = gate_of (number_of ports) (bits_of ports) c.form

-- the names of a bank by number
abbrev pub latch_of : List Port → Bank → Latch
latch_of ports b = record { enable = number_of ports b.enable; source = number_of ports b.source }

-- each operand of these cells is declared, and the widths agree
abbrev pub FormsFit : List Port → List Cell → Type 0
FormsFit ports cells = All (λ (c : Cell). Fits (width_of ports) c.width c.form) cells

-- the enable and the source of a bank are declared with their widths
abbrev pub BankFits : List Port → Bank → Type 0
BankFits ports b = (width_of ports b.enable ≡ Some 1) × (width_of ports b.source ≡ Some b.width)

abbrev pub EnablesFit : List Port → List Bank → Type 0
EnablesFit ports banks = All (λ (b : Bank). width_of ports b.enable ≡ Some 1) banks

abbrev pub SourcesFit : List Port → List Bank → Type 0
SourcesFit ports banks = All (λ (b : Bank). width_of ports b.source ≡ Some b.width) banks

-- the port stands with its width among the cells, which are behind the inputs
pub record IsCellPort (ports : List Port) (inputs cells : ℕ) (o : Port) : Type 0 where
  pub place : ℕ
  pub at : place_of ports o.name ≡ Some place
  pub width : width_of ports o.name ≡ Some o.width
  pub behind_inputs : inputs ≤ place
  pub before_banks : place < inputs + cells

-- the numbers of outputs
abbrev pub outputs_at : List Port → List Port → List ℕ
outputs_at ports outputs = map (λ (o : Port). number_of ports o.name) outputs

-- the wiring of a net
pub record IsWiring (net : Net) (w : Wiring) : Type 0 where
  pub widths : w.widths.items ≡ map (λ (p : Port). p.width) (signals net)
  pub gates : w.gates.items ≡ map (cell_gate (signals net)) net.cells
  pub latches : w.latches.items ≡ map (latch_of (signals net)) net.banks
  pub outputs : w.outputs.items ≡ outputs_at (signals net) net.outputs
  pub order : IsOrder (length net.inputs) w.gates.items w.order.items
