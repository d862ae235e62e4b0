-- A right side is one operation at most.
use Rattle.std.proofs.Common.{◌≡◌, sym, ◌∙◌, arith}
use Rattle.ix_net.specs.declared.netlist.Form.{Form}
use Rattle.ix_net.specs.declared.netlist.Form.TheVariants.{Range}
use Rattle.ix_verilog.specs.declared.right.RightSide.{RightSide}
use Rattle.ix_verilog.proofs.OneNet.{one_form, IsSmall}
use Rattle.ix_vnets.specs.Forms.{IsFormOf, IsWithin}

small : (f : Form) → IsWithin f → IsSmall f
small (Range a hi lo) h = (omega (arith, h.0), omega (arith, h.1))
small f h = tt

pub one_side : (right : RightSide) (form other : Form) → IsFormOf right form → IsFormOf right other → form ≡ other
one_side right form other f g = one_form form other (small form f.within) (small other g.within) (f.is ∙ sym g.is)
