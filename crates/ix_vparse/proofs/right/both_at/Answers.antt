use Rattle.std.proofs.Common.{ap, ◌∙◌}
use Rattle.ix_verilog.specs.declared.right.RightSide.TheVariants as side
use Rattle.ix_verilog.specs.Words.{words_of}
use Rattle.ix_vline.specs.Picked.{nth}
use Rattle.ix_vparse.proofs.Sides.{no_sign}
use Rattle.ix_vparse.proofs.right.both_at.Goals as goal

pub returns : goal.returns
returns c =
    let ws = words_of c.args.tokens.now in
    let s = c.in-Some.sign in
    (s, c.in-Some.ensures ∙ c.word_in.ensures, ap (λ z. side.Both s z c.in_ok-second.second) c.in_ok-first.ensures ∙ ap (λ z. side.Both s (nth 3 ws) z) c.in_ok-second.ensures)

pub unreachable-requires : goal.unreachable-requires
unreachable-requires c = no_sign c.args.tokens.now c.word_in.result.now c.word_in.ensures c.requires.operator c.in_default.ensures
