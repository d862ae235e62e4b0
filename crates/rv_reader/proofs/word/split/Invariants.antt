use Rattle.std.proofs.Common.{take}
use Rattle.rv_reader.specs.Words.{Free}
use Rattle.rv_reader.proofs.word.split.Given as goal

abbrev pub invariant-loop-end : goal.invariant-loop-end
invariant-loop-end l = record {
  free : Free l.by (take l.end l.text);
}
