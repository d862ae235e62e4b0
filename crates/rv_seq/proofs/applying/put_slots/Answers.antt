use Rattle.std.proofs.Common.{◌<◌, ℕ, get_or, None, arith}
use Rattle.ix_bits.specs.declared.number.Bits.{Bits}
use Rattle.ix_eval.proofs.Tables.{table_is}
use Rattle.rv_seq.specs.declared.commit.Slot.{Slot}
use Rattle.rv_seq.specs.declared.commit.Slot.TheVariants.{Absent}
use Rattle.rv_seq.specs.Commits.{slot_of}
use Rattle.rv_seq.proofs.applying.put_slots.Goals as goal

pub returns : goal.returns
returns c =
    let f : ℕ → Slot Bits = λ r. slot_of (get_or c.args.values.now r None) in
    table_is c.loop-number.slots f 16 Absent c.loop-number.invariant.0
    (λ r less. let below : r < c.loop-number.number = omega arith in c.loop-number.invariant.1 r below)
