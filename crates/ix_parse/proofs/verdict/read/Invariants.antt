use Rattle.std.proofs.Common.{length, ◌-◌}
use Rattle.ix_parse_state.specs.Views.{reader_of}
use Rattle.ix_parse.proofs.Runs.{Read}
use Rattle.ix_parse.proofs.verdict.read.Given as goal

-- the tokens before the place were read
abbrev pub invariant-loop-at : goal.invariant-loop-at
invariant-loop-at l = Read l.tokens l.at (reader_of l.reader)

abbrev pub decreases-loop-at : goal.decreases-loop-at
decreases-loop-at l = length l.tokens - l.at
