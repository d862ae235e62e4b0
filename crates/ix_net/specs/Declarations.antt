-- What a net says of names and widths, for names that are given by what is known of them (IEEE 1364-2005, 5.4, expression bit lengths).
use Rattle.std.specs.Prelude.{ℕ, ◌≡◌, ◌+◌, ◌-◌, ◌^◌, ◌<◌, ◌≤◌, List, All, Contains}
use Rattle.ix_net.specs.declared.netlist.Net.{Net}
use Rattle.ix_net.specs.declared.netlist.Cell.{Cell}
use Rattle.ix_net.specs.declared.netlist.Form.{Form}
use Rattle.ix_net.specs.declared.netlist.Form.TheVariants.{Hex, Copy, Add, Sub, Mul, And, Or, Xor, Not, Eq, Lt, LtSigned, Join, Range, Choose}
use Rattle.ix_net.specs.Signals.{signals}
use Rattle.ix_net.specs.Forms.{result_of}

-- the net declares the name with this width
abbrev pub Has : Net → List ℕ → ℕ → Type 0
Has net n w = Contains (signals net) (record { name = n; width = w })

-- the widths of the operands agree with the width w of the target, where `has a v` says that a has width v
abbrev pub FormFits : (List ℕ → ℕ → Type 0) → ℕ → Form → Type 0
FormFits has w (Hex d) = d.width ≡ w
FormFits has w (Copy a) = has a w
FormFits has w (Add a b) = has a w × has b w
FormFits has w (Sub a b) = has a w × has b w
FormFits has w (Mul a b) = has a w × has b w
FormFits has w (And a b) = has a w × has b w
FormFits has w (Or a b) = has a w × has b w
FormFits has w (Xor a b) = has a w × has b w
FormFits has w (Not a) = has a w
FormFits has w (Eq a b) = (w ≡ 1) × ((v : ℕ) × has a v × has b v)
FormFits has w (Lt a b) = (w ≡ 1) × ((v : ℕ) × has a v × has b v)
FormFits has w (LtSigned a b) = (w ≡ 1) × ((v : ℕ) × has a v × has b v)
FormFits has w (Join a b) = (u v : ℕ) × has a u × has b v × (w ≡ u + v)
FormFits has w (Range a hi lo) = (v : ℕ) × has a v × (lo ≤ hi) × (hi < v) × (w ≡ hi - lo + 1)
FormFits has w (Choose c a b) = has c 1 × has a w × has b w

-- the widths are those that the net declares, each value is within its width, and each assignment holds
pub record Explains (net : Net) (value width : List ℕ → ℕ) : Type 0 where
  pub wide : (n : List ℕ) (w : ℕ) → Has net n w → width n ≡ w
  pub fit : (n : List ℕ) (w : ℕ) → Has net n w → value n < 2 ^ w
  pub holds : All (λ (c : Cell). value c.target ≡ result_of value width c.width c.form) net.cells
