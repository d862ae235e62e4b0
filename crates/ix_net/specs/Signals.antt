-- The names that a net declares (IEEE 1364-2005, 3.2, nets and variables).
use Rattle.std.specs.Prelude.{ℕ, List, ◌++◌, map, Option, slice_get, unwrap_or}
use Rattle.std.specs.Option.{option_and_then}
use Rattle.std.specs.List.{position_from}
use Rattle.std.specs.Str.{bytes_eq}
use Rattle.ix_net.specs.declared.netlist.Net.{Net}
use Rattle.ix_net.specs.declared.netlist.Port.{Port}
use Rattle.ix_net.specs.declared.netlist.Cell.{Cell}
use Rattle.ix_net.specs.declared.netlist.Bank.{Bank}

-- a cell's target with its width
abbrev pub cell_port : Cell → Port
cell_port c = record { name = c.target; width = c.width }

-- a bank's target with its width
abbrev pub bank_port : Bank → Port
bank_port b = record { name = b.target; width = b.width }

-- what a net declares: its inputs, then its cells' targets, then its banks' targets
abbrev pub signals : Net → List Port
signals net = net.inputs ++ map cell_port net.cells ++ map bank_port net.banks

-- the place of the first port with this name
abbrev pub place_of : List Port → List ℕ → Option ℕ
place_of ports name = position_from (λ (p : Port). bytes_eq name p.name) 0 ports

-- the width of the first port with this name
abbrev pub width_of : List Port → List ℕ → Option ℕ
width_of ports name = option_and_then (λ i. slice_get (map (λ (p : Port). p.width) ports) i) (place_of ports name)

-- the place of a name, and its width; 0 for one that is not declared
abbrev pub number_of : List Port → List ℕ → ℕ
number_of ports name = unwrap_or (place_of ports name) 0

abbrev pub bits_of : List Port → List ℕ → ℕ
bits_of ports name = unwrap_or (width_of ports name) 0
