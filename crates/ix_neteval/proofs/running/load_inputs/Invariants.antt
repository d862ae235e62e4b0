use Rattle.std.proofs.Common.{◌≡◌, ◌++◌, map, take, drop}
use Rattle.ix_bits.specs.declared.number.Bits.{Bits}
use Rattle.ix_neteval.proofs.running.load_inputs.Given as goal

abbrev pub invariant-loop-i : goal.invariant-loop-i
invariant-loop-i l = l.values ≡ map (λ (b : Bits). b.raw) (take l.i l.inputs) ++ drop l.i l.initial.values
