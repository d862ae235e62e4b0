use Rattle.std.proofs.Common.{◌≤◌, ◌-◌, length}
use Rattle.ix_verilog.specs.Words.{words_of}
use Rattle.ix_vparse.proofs.Reading.{Led}
use Rattle.ix_vparse.proofs.modules.modules_in.Given as goal

abbrev pub invariant-loop-at : goal.invariant-loop-at
invariant-loop-at l = record {
  within : l.at ≤ length l.tokens;
  led : Led (words_of l.tokens) l.at l.modules l.scope;
}

abbrev pub decreases-loop-at : goal.decreases-loop-at
decreases-loop-at l = length l.tokens - l.at
