use Rattle.std.proofs.Common.{◌≡◌}
use Rattle.rv_asm.specs.Labels.{found}
use Rattle.rv_asm.proofs.Eachwise.{from}
use Rattle.rv_asm.proofs.reading.read_operands.Given as goal

abbrev pub invariant-loop-k : goal.invariant-loop-k
invariant-loop-k l = from (found l.labels) l.at l.kinds l.texts l.operands l.k ≡ from (found l.labels) l.at l.kinds l.texts l.fn.start 0
