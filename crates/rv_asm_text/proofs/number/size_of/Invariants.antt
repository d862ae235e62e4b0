use Rattle.std.proofs.Common.{◌≡◌, ◌≤◌, drop}
use Rattle.rv_asm_text.specs.Numbers.{most_size, digits_size, size_of}
use Rattle.rv_asm_text.proofs.number.size_of.Given as goal

abbrev pub invariant-loop-b : goal.invariant-loop-b
invariant-loop-b l = record {
  rest : size_of l.base l.word ≡ digits_size l.base l.size (drop l.b-index l.word);
  most : l.size ≤ most_size;
}
