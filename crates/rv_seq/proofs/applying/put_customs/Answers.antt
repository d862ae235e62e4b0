use Rattle.std.proofs.Common.{◌<◌, ℕ, get_or, arith}
use Rattle.ix_bits.specs.declared.number.Bits.{Bits}
use Rattle.ix_eval.proofs.Tables.{table_is}
use Rattle.rv_seq.specs.declared.commit.Slot.TheVariants.{Absent}
use Rattle.rv_seq.specs.States.{zero_bit}
use Rattle.rv_seq.specs.Commits.{with_slot}
use Rattle.rv_seq.proofs.applying.put_customs.Goals as goal

pub returns : goal.returns
returns c =
    let f : ℕ → Bits = λ r. with_slot (get_or c.args.file.now r zero_bit) (get_or c.args.slots.now r Absent) in
    table_is c.loop-number.file f 16 zero_bit c.loop-number.invariant.long
    (λ r less. let below : r < c.loop-number.number = omega arith in c.loop-number.invariant.done r below)
