-- Laws of the definitions.
use Rattle.std.specs.Prelude.{ℕ, List, ◌≡◌, map}
use Rattle.ix_net.specs.declared.netlist.Net.{Net}
use Rattle.ix_net.specs.Signals.{bank_port}
use Rattle.ix_net.specs.Valid.{IsValid}
use Rattle.ix_net.specs.Valuation.{FitPorts, Settles}

-- some values settle the net, and no others do
pub record HasOneValuation (net : Net) (inputs banks : List ℕ) : Type 0 where
  pub values : List ℕ
  pub settles : Settles net inputs banks values
  pub only : (others : List ℕ) → Settles net inputs banks others → others ≡ values

-- a valid net has exactly one valuation for given inputs and banks
abbrev pub ValidNetsHaveOneValuation : Type 0
ValidNetsHaveOneValuation =
    (net : Net) (inputs banks : List ℕ) → IsValid net → FitPorts net.inputs inputs → FitPorts (map bank_port net.banks) banks →
    HasOneValuation net inputs banks
