use Rattle.std.proofs.Common.{ap, ◌∙◌}
use Rattle.ix_verilog.specs.declared.right.RightSide.TheVariants as side
use Rattle.ix_verilog.specs.Words.{words_of}
use Rattle.ix_vline.specs.Picked.{nth}
use Rattle.ix_vparse.proofs.right.range_at.Goals as goal

pub returns : goal.returns
returns c = (let ws = words_of c.args.tokens.now in ap (λ z. side.Range z c.in_ok-high.high c.in_ok-low.low) c.in_ok-source.ensures ∙ ap (λ z. side.Range (nth 3 ws) z c.in_ok-low.low) c.in_ok-high.ensures ∙ ap (λ z. side.Range (nth 3 ws) (nth 5 ws) z) c.in_ok-low.ensures)
