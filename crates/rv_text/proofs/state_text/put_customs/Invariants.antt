use Rattle.std.proofs.Common.{◌≡◌, ◌+◌, ◌*◌, ◌≤◌, ◌++◌, length, drop}
use Rattle.rv_text.specs.RunText.{custom_lines}
use Rattle.rv_text.proofs.state_text.put_customs.Given as goal

abbrev pub invariant-loop-number : goal.invariant-loop-number
invariant-loop-number l =
    (l.out ++ custom_lines l.number (drop l.number l.custom) ≡ l.fn.out ++ custom_lines 0 l.custom) × (length l.out ≤ length l.fn.out + 38 * l.number)
