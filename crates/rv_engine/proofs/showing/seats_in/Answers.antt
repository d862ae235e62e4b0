use Rattle.std.proofs.Common.{◌∙◌, sym, None, arith, inl, inr}
use Rattle.std.proofs.lemmas.Bool.{cases_lt}
use Rattle.ix_eval.proofs.Tables.{table_is}
use Rattle.rv_engine.specs.Showing.{slot_seat}
use Rattle.rv_engine.proofs.Seats.{none_shown, seats_more}
use Rattle.rv_engine.proofs.showing.seats_in.Goals as goal

pub loop-stage-preserved : goal.loop-stage-preserved
loop-stage-preserved c =
    seats_more c.args.shape c.args.file.now c.args.flushed c.args.slots.now c.loop-stage.seats c.loop-stage.stage c.seat_in.result c.seat_in.ensures (omega arith) c.loop-stage.invariant

pub returns : goal.returns
returns c =
    table_is c.loop-stage.seats (slot_seat c.args.shape c.args.file.now c.args.flushed c.args.slots.now) 5 None c.loop-stage.invariant.long
    (λ n less. elim (cases_lt n c.loop-stage.stage) [
      | inl lt ↦ c.loop-stage.invariant.done n lt
      | inr le ↦ c.loop-stage.invariant.rest n le ∙ sym (none_shown c.args.shape c.args.file.now c.args.flushed c.args.slots.now n (omega arith))
    ])
