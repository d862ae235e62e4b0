use Rattle.std.proofs.Common.{◌≡◌, ◌≤◌, take, length}
use Rattle.std.specs.Prelude.{map}
use Rattle.rv_asm.specs.ImageText.{lines_of, words_in, AllGood}
use Rattle.rv_asm.proofs.image_text.read_image.Given as goal

abbrev pub invariant-loop-i : goal.invariant-loop-i
invariant-loop-i l = record {
  lines_are : map (λ x. x.now) l.line-items ≡ lines_of l.bytes;
  good : AllGood (take l.i (lines_of l.bytes));
  words : l.image ≡ words_in (take l.i (lines_of l.bytes));
  few : length l.image ≤ 65536;
}
