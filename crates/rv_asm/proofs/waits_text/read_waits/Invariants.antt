use Rattle.std.proofs.Common.{◌≡◌, ◌≤◌, take, length}
use Rattle.std.specs.Prelude.{map}
use Rattle.rv_asm.specs.NumbersText.{parts_of, words_among}
use Rattle.rv_asm.specs.WaitsText.{AreWaits}
use Rattle.rv_asm.proofs.waits_text.read_waits.Given as goal

abbrev pub invariant-loop-part : goal.invariant-loop-part
invariant-loop-part l = record {
  parts_are : map (λ x. x.now) l.part-items ≡ parts_of l.bytes;
  waits_are : AreWaits (words_among (take l.part-index (parts_of l.bytes))) l.waits;
  few : length l.waits ≤ 65536;
}
