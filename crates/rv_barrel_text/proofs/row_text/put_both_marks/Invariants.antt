use Rattle.std.proofs.Common.{◌≡◌, ◌≤◌, ◌+◌, ◌*◌, ◌++◌, drop, length}
use Rattle.rv_barrel_text.specs.BarrelRowText.{marks_text, of_each}
use Rattle.rv_barrel_text.proofs.row_text.put_both_marks.Given as goal

abbrev pub invariant-loop-hart : goal.invariant-loop-hart
invariant-loop-hart l = record {
  text : l.out ++ of_each marks_text l.hart (drop l.hart l.parts) ≡ l.fn.out ++ of_each marks_text 0 l.parts;
  few : length l.out ≤ length l.fn.out + 120 * l.hart;
}
