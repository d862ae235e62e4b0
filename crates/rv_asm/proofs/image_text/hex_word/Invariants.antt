use Rattle.std.proofs.Common.{◌≡◌, ◌<◌, ◌^◌, drop, length}
use Rattle.rv_asm.specs.ImageText.{hex_number}
use Rattle.rv_asm.proofs.image_text.hex_word.Given as goal

abbrev pub invariant-loop-b : goal.invariant-loop-b
invariant-loop-b l = record {
  number : hex_number 0 l.line ≡ hex_number l.word (drop l.b-index l.line);
  below : l.word < 16 ^ l.b-index;
  eight : length l.line ≡ 8;
}
