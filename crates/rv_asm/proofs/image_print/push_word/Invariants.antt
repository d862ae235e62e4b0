use Rattle.std.proofs.Common.{◌≡◌, ◌-◌, ◌/◌, ◌^◌, ◌++◌}
use Rattle.ix_io.specs.Out.{hex_digits}
use Rattle.rv_asm.proofs.image_print.push_word.Given as goal

abbrev pub invariant-loop-place : goal.invariant-loop-place
invariant-loop-place l = record {
  items : l.text.items ≡ l.fn.text.items ++ hex_digits (8 - l.place) (l.word / 16 ^ l.place);
}
