use Rattle.std.proofs.Common.{map}
use Rattle.ix_bits.specs.declared.number.Bits.{Bits}
use Rattle.ix_neteval.proofs.Marking.{Flagged}
use Rattle.ix_neteval.proofs.running.mark_inputs.Given as goal

abbrev pub invariant-loop-i : goal.invariant-loop-i
invariant-loop-i l = Flagged l.values (map (λ (b : Bits). b.raw) l.inputs) 0 l.marks l.i
