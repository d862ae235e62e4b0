use Rattle.std.proofs.Common.{ap, ◌∙◌}
use Rattle.ix_verilog.specs.declared.right.RightSide.TheVariants as side
use Rattle.ix_verilog.specs.Words.{words_of}
use Rattle.ix_vline.specs.Picked.{nth}
use Rattle.ix_vparse.proofs.right.signed_at.Goals as goal

pub returns : goal.returns
returns c = (let ws = words_of c.args.tokens.now in ap (λ z. side.Signed z c.in_ok-second.second) c.in_ok-first.ensures ∙ ap (λ z. side.Signed (nth 5 ws) z) c.in_ok-second.ensures)
