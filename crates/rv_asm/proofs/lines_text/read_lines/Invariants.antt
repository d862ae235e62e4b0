use Rattle.std.proofs.Common.{◌≡◌, ◌≤◌, take, length}
use Rattle.std.specs.Prelude.{map}
use Rattle.rv_waits.specs.Lines.{Ascending}
use Rattle.rv_asm.specs.NumbersText.{parts_of, words_among}
use Rattle.rv_asm.specs.LinesText.{AreRows}
use Rattle.rv_asm.proofs.lines_text.read_lines.Given as goal

abbrev pub invariant-loop-part : goal.invariant-loop-part
invariant-loop-part l = record {
  parts_are : map (λ x. x.now) l.part-items ≡ parts_of l.bytes;
  rows_are : AreRows (words_among (take l.part-index (parts_of l.bytes))) l.lines;
  ascending : Ascending 0 l.lines;
  few : length l.lines ≤ 4096;
}
