use Rattle.std.proofs.Common.{◌≡◌, ◌≤◌, ◌<◌, ◌^◌, drop, length}
use Rattle.rv_asm.specs.NumbersText.{decimal_number}
use Rattle.rv_asm.proofs.numbers_text.decimal_number.Given as goal

abbrev pub invariant-loop-b : goal.invariant-loop-b
invariant-loop-b l = record {
  number : decimal_number 0 l.word ≡ decimal_number l.number (drop l.b-index l.word);
  below : l.number < 10 ^ l.b-index;
  six : length l.word ≤ 6;
}
