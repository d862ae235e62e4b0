use Rattle.std.proofs.Common.{◌≡◌, ◌<◌, ◌^◌, drop}
use Rattle.rv_reader.specs.Words.{hex_from}
use Rattle.rv_reader.proofs.word.digits.Given as goal

abbrev pub invariant-loop-byte : goal.invariant-loop-byte
invariant-loop-byte l = record {
  rest : hex_from 0 l.word ≡ hex_from l.value (drop l.byte-index l.word);
  small : l.value < 16 ^ l.byte-index;
}
