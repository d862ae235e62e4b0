use Rattle.std.proofs.Common.{◌≡◌, take}
use Rattle.rv_asm.specs.ImageText.{image_text}
use Rattle.rv_asm.proofs.Printed.{Fit}
use Rattle.rv_asm.proofs.image_print.print_image.Given as goal

abbrev pub invariant-loop-word : goal.invariant-loop-word
invariant-loop-word l = record {
  text : l.text.items ≡ image_text (take l.word-index l.word-items);
  fit : Fit (take l.word-index l.word-items);
}
