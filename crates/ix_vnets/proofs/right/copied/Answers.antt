use Rattle.std.proofs.Common.{ap}
use Rattle.ix_verilog.specs.declared.right.RightSide.TheVariants as side
use Rattle.ix_vnets.proofs.right.copied.Goals as goal

pub returns : goal.returns
returns c = record { is = ap side.Copy c.in_ok-name.ensures; within = tt }
