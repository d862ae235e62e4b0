use Rattle.std.proofs.Common.{ap, ◌∙◌}
use Rattle.ix_verilog.specs.declared.right.RightSide.TheVariants as side
use Rattle.ix_verilog.specs.Words.{words_of}
use Rattle.ix_vline.specs.Picked.{nth}
use Rattle.ix_vparse.proofs.right.turned_at.Goals as goal

pub returns : goal.returns
returns c = ap (λ z. side.Turned z) c.in_ok-name.ensures
