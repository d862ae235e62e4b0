use Rattle.std.proofs.Common.{length, ◌-◌}
use Rattle.ix_vread.proofs.Parts.{Reached}
use Rattle.ix_vread.proofs.words.words_in.Given as goal

abbrev pub invariant-loop-at : goal.invariant-loop-at
invariant-loop-at l = Reached l.bytes l.at l.tokens

abbrev pub decreases-loop-at : goal.decreases-loop-at
decreases-loop-at l = length l.bytes - l.at
