-- Which operation a right side is (IEEE 1364-2005, 5.1).
use Rattle.std.specs.Prelude.{◌≡◌, ◌≤◌}
use Rattle.ix_net.specs.declared.netlist.Form.{Form}
use Rattle.ix_net.specs.declared.netlist.Form.TheVariants.{Range}
use Rattle.ix_verilog.specs.declared.right.RightSide.{RightSide}
use Rattle.ix_verilog.specs.Lines.{right_of}

-- the places of a range are those of bits of some operand: 0 to 127 (widths of 1 to 128 bits are this project's choice)
abbrev pub IsWithin : Form → Type 0
IsWithin (Range a hi lo) = (hi ≤ 127) × (lo ≤ 127)
IsWithin form = Unit {0}

-- the right side is this operation
pub record IsFormOf (right : RightSide) (form : Form) : Type 0 where
  pub is : right_of form ≡ right
  pub within : IsWithin form

-- it is none: a number does not fit its width, the width is not 1 to 128, or a range goes beyond bit 127
abbrev pub IsNoForm : RightSide → Type 0
IsNoForm right = (form : Form) → IsFormOf right form → ⊥
