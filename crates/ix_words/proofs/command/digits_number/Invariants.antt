use Rattle.std.proofs.Common.{◌≡◌, ◌<◌, ◌^◌, drop}
use Rattle.ix_words.specs.CommandLine.{digits_number}
use Rattle.ix_words.proofs.command.digits_number.Given as goal

abbrev pub invariant-loop-b : goal.invariant-loop-b
invariant-loop-b l = record {
  number : digits_number 0 l.word ≡ digits_number l.number (drop l.b-index l.word);
  below : l.number < 10 ^ l.b-index;
}
