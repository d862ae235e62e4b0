use Rattle.std.proofs.Common.{ap, ◌∙◌}
use Rattle.ix_verilog.specs.declared.right.RightSide.TheVariants as side
use Rattle.ix_verilog.specs.Words.{words_of}
use Rattle.ix_vline.specs.Picked.{nth}
use Rattle.ix_vparse.proofs.right.joined_at.Goals as goal

pub returns : goal.returns
returns c = (let ws = words_of c.args.tokens.now in ap (λ z. side.Joined z c.in_ok-low.low) c.in_ok-high.ensures ∙ ap (λ z. side.Joined (nth 4 ws) z) c.in_ok-low.ensures)
