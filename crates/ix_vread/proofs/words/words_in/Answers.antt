use Rattle.std.proofs.Common.{arith, refl, ◌+◌}
use Rattle.ix_vread.proofs.Parts.{reached_all, step}
use Rattle.ix_vread.proofs.words.words_in.Goals as goal

pub loop-at-preserved : goal.loop-at-preserved
loop-at-preserved c =
    step c.args.bytes.now c.loop-at.at c.part-found.result.rest (c.loop-at.at + 1 + c.part-found.result.rest) c.loop-at.tokens c.keep.new.tokens c.part-found.result.is_word c.loop-at-test.true c.loop-at.invariant refl
    c.part-found.ensures c.in_ok-keep.ensures

pub returns : goal.returns
returns c = reached_all c.args.bytes.now c.loop-at.at c.loop-at.tokens (omega (arith, c.loop-at-test.false)) c.loop-at.invariant
