-- What the names of a net stand for in one cycle (IEEE 1364-2005, 6.1: each assignment holds at all times).
use Rattle.std.specs.Prelude.{ℕ, ◌≡◌, ◌<◌, ◌+◌, ◌^◌, List, [], ◌∷◌, length, take, drop, slice_index, unwrap_or, All}
use Rattle.std.specs.Option.{option_map}
use Rattle.ix_net.specs.declared.netlist.Net.{Net}
use Rattle.ix_net.specs.declared.netlist.Port.{Port}
use Rattle.ix_net.specs.declared.netlist.Cell.{Cell}
use Rattle.ix_net.specs.Signals.{signals, place_of, bits_of}
use Rattle.ix_net.specs.Forms.{result_of}

-- `values` has one value for each signal of a net, in their order: inputs, cells, banks

-- the value of a name, 0 for one that is not declared
abbrev pub value_of : Net → List ℕ → List ℕ → ℕ
value_of net values name = unwrap_or (option_map (λ i. slice_index values i) (place_of (signals net) name)) 0

-- the values of the inputs
abbrev pub inputs_of : Net → List ℕ → List ℕ
inputs_of net values = take (length net.inputs) values

-- the values of the banks
abbrev pub banks_of : Net → List ℕ → List ℕ
banks_of net values = drop (length net.inputs + length net.cells) values

-- the value of a cell's right side
abbrev pub right_side : Net → List ℕ → Cell → ℕ
right_side net values c = result_of (value_of net values) (bits_of (signals net)) c.width c.form

-- one pattern for each port, within its width
abbrev pub FitPorts : List Port → List ℕ → Type 0
FitPorts [] [] = Unit {0}
FitPorts [] (v ∷ vs) = ⊥
FitPorts (p ∷ ps) [] = ⊥
FitPorts (p ∷ ps) (v ∷ vs) = (v < 2 ^ p.width) × FitPorts ps vs

-- each name has a pattern of its width, and each assignment holds
pub record IsValuation (net : Net) (values : List ℕ) : Type 0 where
  pub fit : FitPorts (signals net) values
  pub holds : All (λ (c : Cell). value_of net values c.target ≡ right_side net values c) net.cells

-- a valuation with these inputs and banks
pub record Settles (net : Net) (inputs banks values : List ℕ) : Type 0 where
  pub valuation : IsValuation net values
  pub inputs_same : inputs_of net values ≡ inputs
  pub banks_same : banks_of net values ≡ banks
