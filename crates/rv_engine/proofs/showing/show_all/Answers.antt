use Rattle.std.proofs.Common.{◌∙◌, sym, ap, length, get_or, None, arith}
use Rattle.ix_eval.specs.Tables.{table}
use Rattle.rv_ports.specs.Seats.{loaded}
use Rattle.rv_engine.specs.Showing.{slot_seat, slot_load}
use Rattle.rv_engine.proofs.Seats.{got_at, shown_is, struck_within}
use Rattle.rv_engine.proofs.showing.show_all.Goals as goal

pub returns : goal.returns
returns c =
    shown_is c.args.shape c.args.arch.now c.args.future.now c.args.owing.now c.args.turn c.args.slots.now c.seats_in-shown.result c.datum_in-shown.result c.frozen_in-shown.result
    (c.seats_in-shown.ensures ∙ ap (λ f. table (slot_seat c.args.shape c.args.arch.now.x f c.args.slots.now) 5) c.struck.ensures)
    (c.datum_in-shown.ensures ∙ ap (λ s. loaded c.args.arch.now.mem (slot_load s)) (sym (ap (λ n. get_or c.args.slots.now n None) (sym c.from.ensures) ∙ got_at c.args.slots.now c.from.result c.index-slots-from.result (let inside = c.requires.inside in let from = c.from.ensures in omega (arith, inside, from)) c.index-slots-from.is)))
    c.frozen_in-shown.ensures

pub seats_in-shown-requires-clause-flushed : goal.seats_in-shown-requires-clause-flushed
seats_in-shown-requires-clause-flushed c = struck_within c.args.turn (length c.args.slots.now) c.struck.result c.struck.ensures c.requires.turn
