use Rattle.std.proofs.Common.{◌≡◌, drop}
use Rattle.ix_bits.specs.BaseTable.{base_patterns}
use Rattle.ix_extension.specs.Faults.{shared_word}
use Rattle.ix_encode.proofs.overlap.base_word.Given as goal

abbrev pub invariant-loop-row : goal.invariant-loop-row
invariant-loop-row l = shared_word l.p base_patterns ≡ shared_word l.p (drop l.row base_patterns)
