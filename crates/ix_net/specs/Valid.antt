-- When a net is valid (IEEE 1364-2005, 6.1, continuous assignments, and 12.3, ports; that no name is driven twice and that
-- no assignment depends on itself are this project's choice).
use Rattle.std.specs.Prelude.{ℕ, ◌≡◌, ◌≢◌, ◌≤◌, List, ◌∷◌, map, All, AllPairs, Contains, Some}
use Rattle.ix_net.specs.declared.netlist.Net.{Net}
use Rattle.ix_net.specs.declared.netlist.Port.{Port}
use Rattle.ix_net.specs.declared.netlist.Cell.{Cell}
use Rattle.ix_net.specs.declared.netlist.Bank.{Bank}
use Rattle.ix_net.specs.Name.{IsName}
use Rattle.ix_net.specs.Signals.{signals, cell_port, width_of}
use Rattle.ix_net.specs.Forms.{operands, Fits}
use Rattle.ix_net.specs.Chain.{Chain}

-- a width of 1 to 128 bits
pub record IsWidth (w : ℕ) : Type 0 where
  pub some : 1 ≤ w
  pub most : w ≤ 128

-- the names of ports
abbrev pub names : List Port → List (List ℕ)
names ports = map (λ (p : Port). p.name) ports

-- some cell has the operand x and the target y
pub record Feeds (net : Net) (x y : List ℕ) : Type 0 where
  pub cell : Cell
  pub in_net : Contains net.cells cell
  pub reads : Contains (operands cell.form) x
  pub drives : cell.target ≡ y

-- y depends on x through cells alone, without a bank
abbrev pub DependsOn : Net → List ℕ → List ℕ → Type 0
DependsOn net y x = Chain (Feeds net) x y

pub record IsValid (net : Net) : Type 0 where
  -- the module and what it declares have names by the rule for names
  pub module_named : IsName net.name
  pub named : All (λ (p : Port). IsName p.name) (signals net)
  -- no name is declared or driven twice
  pub distinct : AllPairs (λ x y. x ≢ y) (net.name ∷ names (signals net))
  pub widths : All (λ (p : Port). IsWidth p.width) (signals net)
  -- each output is the target of a cell with its width, and no two outputs are one
  pub outputs_driven : All (λ o. Contains (map cell_port net.cells) o) net.outputs
  pub outputs_distinct : AllPairs (λ x y. x ≢ y) (names net.outputs)
  -- each operand is declared, and the widths agree
  pub cells_fit : All (λ (c : Cell). Fits (width_of (signals net)) c.width c.form) net.cells
  pub enables : All (λ (b : Bank). width_of (signals net) b.enable ≡ Some 1) net.banks
  pub sources : All (λ (b : Bank). width_of (signals net) b.source ≡ Some b.width) net.banks
  -- no cell depends on itself without a bank
  pub loopless : (name : List ℕ) → DependsOn net name name → ⊥
