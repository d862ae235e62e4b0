use Rattle.std.proofs.Common.{◌≡◌, ◌≤◌, drop, length}
use Rattle.ix_words.specs.CommandLine.{fits_slots, bytes_of}
use Rattle.ix_words.proofs.command.fit.Given as goal

abbrev pub invariant-loop-at : goal.invariant-loop-at
invariant-loop-at l = record {
  rest : fits_slots l.slots (bytes_of l.words) ≡ fits_slots (drop l.at l.slots) (drop l.at (bytes_of l.words));
  within : l.at ≤ length l.words;
}
