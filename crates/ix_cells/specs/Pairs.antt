-- Two wires at once.
use Rattle.std.specs.Prelude.{ℕ, ◌≡◌, List}
use Rattle.ix_net.specs.declared.netlist.Net.{Net}
use Rattle.ix_net.specs.Declarations.{Explains}
use Rattle.ix_cells.specs.declared.signal.Signal.{Signal}
use Rattle.ix_cells.specs.declared.signal.Wire.{Wire}
use Rattle.ix_cells.specs.Growth.{IsWire, AreWires, AreNodes, Extends, seen}

-- cells were added that read no others than `needs` and what was there, and the wires x and y, of one width, show f and g
pub record AddsPair (needs : List Wire) (old new : Net) (x y : Wire) (width : ℕ) (f g : (Signal → ℕ) → ℕ) : Type 0 where
  pub extends : Extends old new
  pub same_banks : new.banks ≡ old.banks
  pub same_outputs : new.outputs ≡ old.outputs
  pub left_wide : x.width ≡ width
  pub right_wide : y.width ≡ width
  pub nodes : AreNodes old 0 old.cells → AreWires old needs → AreNodes new 0 new.cells
  pub left : AreNodes old 0 old.cells → AreWires old needs → IsWire new x
  pub right : AreNodes old 0 old.cells → AreWires old needs → IsWire new y
  pub left_gives :
      (value wide : List ℕ → ℕ) → AreNodes old 0 old.cells → AreWires old needs → Explains new value wide →
      seen value x.signal ≡ f (seen value)
  pub right_gives :
      (value wide : List ℕ → ℕ) → AreNodes old 0 old.cells → AreWires old needs → Explains new value wide →
      seen value y.signal ≡ g (seen value)
