use Rattle.std.proofs.Common.{◌<◌, ℕ, get_or, false, arith}
use Rattle.std.specs.Prelude.{if◌then◌else◌}
use Rattle.ix_bits.specs.declared.number.Bits.{Bits}
use Rattle.ix_eval.proofs.Tables.{table_is}
use Rattle.rv_seq.specs.declared.commit.Slot.{Slot}
use Rattle.rv_seq.specs.declared.commit.Slot.TheVariants.{Absent, Later}
use Rattle.rv_tried.proofs.parts.show_customs.Goals as goal

pub returns : goal.returns
returns c =
    let f : ℕ → Slot Bits = λ r. if get_or c.args.spawned.now r false then Later else get_or c.args.slots.now r Absent in
    table_is c.loop-number.slots f 16 Absent c.loop-number.invariant.long
    (λ r less. let below : r < c.loop-number.number = omega arith in c.loop-number.invariant.done r below)
