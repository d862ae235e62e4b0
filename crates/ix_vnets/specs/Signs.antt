-- Signs between two operands (IEEE 1364-2005, 5.1.5 to 5.1.10).
use Rattle.ix_net.specs.declared.netlist.Form.{Form}
use Rattle.ix_net.specs.declared.netlist.Form.TheVariants as form
use Rattle.ix_verilog.specs.Words.{Word}
use Rattle.ix_verilog.specs.declared.right.Sign.{Sign}
use Rattle.ix_verilog.specs.declared.right.Sign.TheVariants.{Plus, Minus, Times, And, Or, Xor, Equal, Less}

-- the operation of a sign on two operands
abbrev pub with_sign : Sign → Word → Word → Form
with_sign Plus a b = form.Add a b
with_sign Minus a b = form.Sub a b
with_sign Times a b = form.Mul a b
with_sign And a b = form.And a b
with_sign Or a b = form.Or a b
with_sign Xor a b = form.Xor a b
with_sign Equal a b = form.Eq a b
with_sign Less a b = form.Lt a b
