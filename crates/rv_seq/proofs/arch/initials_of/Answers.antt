use Rattle.std.proofs.Common.{◌<◌, ℕ, arith}
use Rattle.ix_bits.specs.declared.number.Bits.{Bits}
use Rattle.ix_eval.proofs.Tables.{table_is}
use Rattle.rv_seq.specs.States.{zero_bit, initial_of}
use Rattle.rv_seq.proofs.arch.initials_of.Goals as goal

pub returns : goal.returns
returns c =
    let f : ℕ → Bits = initial_of c.args.registers.now in
    table_is c.loop-number.all f 16 zero_bit c.loop-number.invariant.0
    (λ r less. let below : r < c.loop-number.number = omega arith in c.loop-number.invariant.1 r below)
