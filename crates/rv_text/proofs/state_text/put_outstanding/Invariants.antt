use Rattle.std.proofs.Common.{◌≡◌, ◌+◌, ◌*◌, ◌≤◌, ◌++◌, length, drop}
use Rattle.std.specs.List.{flat_map}
use Rattle.rv_text.specs.RunText.{outstanding_line}
use Rattle.rv_text.proofs.state_text.put_outstanding.Given as goal

abbrev pub invariant-loop-serial : goal.invariant-loop-serial
invariant-loop-serial l = record {
  text : l.out ++ flat_map outstanding_line (drop l.serial-index l.outstanding) ≡ l.fn.out ++ flat_map outstanding_line l.outstanding;
  few : length l.out ≤ length l.fn.out + 18 * l.serial-index;
}
