use Rattle.std.proofs.Common.{◌≡◌, ℕ, ◌<◌, drop, false}
use Rattle.ix_verilog.specs.Words.{ends_comment}
use Rattle.ix_vread.proofs.scan.comment.Given as goal

abbrev pub invariant-loop-at : goal.invariant-loop-at
invariant-loop-at l = (k : ℕ) → k < l.at → ends_comment (drop k l.bytes) ≡ false
