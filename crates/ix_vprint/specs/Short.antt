-- The lengths of the names that a net declares.
use Rattle.std.specs.Prelude.{ℕ, ◌≤◌, List, length, All}
use Rattle.ix_net.specs.declared.netlist.Net.{Net}
use Rattle.ix_net.specs.declared.netlist.Port.{Port}
use Rattle.ix_net.specs.declared.netlist.Cell.{Cell}
use Rattle.ix_net.specs.declared.netlist.Bank.{Bank}

-- at most 80 bytes
abbrev pub IsShort : List ℕ → Type 0
IsShort n = length n ≤ 80

abbrev pub AreShort : List Port → Type 0
AreShort ports = All (λ (p : Port). IsShort p.name) ports

-- the names that a net declares are short
pub record HasShortNames (net : Net) : Type 0 where
  pub name : IsShort net.name
  pub inputs : AreShort net.inputs
  pub outputs : AreShort net.outputs
  pub cells : All (λ (c : Cell). IsShort c.target) net.cells
  pub banks : All (λ (b : Bank). IsShort b.target) net.banks
