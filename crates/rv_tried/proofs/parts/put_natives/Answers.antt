use Rattle.std.proofs.Common.{◌∙◌, ◌<◌, ℕ, ap, sym, get_or, None, false, arith}
use Rattle.std.specs.Prelude.{if◌then◌else◌}
use Rattle.ix_bits.specs.declared.number.Bits.{Bits}
use Rattle.ix_eval.proofs.Tables.{table_at, table_is}
use Rattle.rv_seq.specs.declared.commit.Slot.{Slot}
use Rattle.rv_seq.specs.declared.commit.Slot.TheVariants.{Absent}
use Rattle.rv_seq.specs.States.{zero_bit}
use Rattle.rv_seq.specs.Commits.{slot_of, with_slot}
use Rattle.rv_tried.specs.Parts.{native_customs}
use Rattle.rv_tried.proofs.parts.put_natives.Goals as goal

pub returns : goal.returns
returns c =
    let g : ℕ → Slot Bits = λ r. if get_or c.args.spawned.now r false then slot_of (get_or c.args.blocks.now r None) else get_or c.args.slots.now r Absent in
    let slots = native_customs c.args.spawned.now c.args.blocks.now c.args.slots.now in
    let f : ℕ → Bits = λ r. with_slot (get_or c.args.file.now r zero_bit) (get_or slots r Absent) in
    table_is c.loop-number.file f 16 zero_bit c.loop-number.invariant.long
    (λ r less. let below : r < c.loop-number.number = omega arith in
    c.loop-number.invariant.done r below ∙ ap (λ (s : Slot Bits). with_slot (get_or c.args.file.now r zero_bit) s) (sym (table_at g 16 r Absent less)))
