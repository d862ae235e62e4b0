use Rattle.std.proofs.Common.{◌∙◌, ◌+◌, sym}
use Rattle.rv_barrel.specs.Cells.{fetched_of}
use Rattle.std.proofs.Common.{refl}
use Rattle.std.specs.Prelude.{option_map}
use Rattle.rv_harts.specs.Events.{event_of, event_here, event_from as specified_event_from}
use Rattle.rv_barrel.specs.Cells.{count, fetched_at}
use Rattle.rv_barrel.specs.Older.{kept_of}
use Rattle.rv_barrel.proofs.Olders.{rest_of, rest_asked}
use Rattle.rv_barrel.proofs.Occurring.{event_slot, rest_tried, slot_tried_first, slot_asked, at_first, at_second}
use Rattle.rv_barrel.proofs.events.+event_from.Goals as goal

pub returns-in-None-event_from : goal.returns-in-None-event_from
returns-in-None-event_from t c k q all core asked tried owed =
    let s = c.args.slots.now in
    let d = fetched_at (q + count (rest_of s)) c.in-Some.one in
    at_second c.event_from-in-Some.result c.event_at.result (specified_event_from k all (kept_of c.args.out all) c.in-Some.one.at (c.args.stage + 1) (fetched_of q (rest_of s))) (option_map (event_here c.args.stage) (event_of k all (kept_of c.args.out all) c.args.near c.args.stage d (fetched_of q (rest_of s))))
    (c.event_from-in-Some.ensures k q all core (rest_asked k s asked) (rest_tried k k.shape.ex q c.args.stage s tried) owed) c.in-None-event_from.is
    (c.event_at.ensures k q all d core refl (slot_asked k s c.slot-item.result c.in-Some.one c.in-len1-up.len_at_least c.slot-item.is c.in-Some.is asked) (slot_tried_first k k.shape.ex q c.args.stage s c.slot-item.result c.in-Some.one c.in-len1-up.len_at_least c.slot-item.is c.in-Some.is tried) (rest_asked k s asked) owed)
    ∙ sym (event_slot k all (kept_of c.args.out all) c.args.near q c.args.stage s c.slot-item.result c.in-Some.one c.in-len1-up.len_at_least c.slot-item.is c.in-Some.is)

pub returns-in_default : goal.returns-in_default
returns-in_default t c k q all core asked tried owed =
    let s = c.args.slots.now in
    let d = fetched_at (q + count (rest_of s)) c.in-Some.one in
    at_first c.event_from-in-Some.result (specified_event_from k all (kept_of c.args.out all) c.in-Some.one.at (c.args.stage + 1) (fetched_of q (rest_of s))) (option_map (event_here c.args.stage) (event_of k all (kept_of c.args.out all) c.args.near c.args.stage d (fetched_of q (rest_of s))))
    (c.event_from-in-Some.ensures k q all core (rest_asked k s asked) (rest_tried k k.shape.ex q c.args.stage s tried) owed) c.in_default.not-None
    ∙ sym (event_slot k all (kept_of c.args.out all) c.args.near q c.args.stage s c.slot-item.result c.in-Some.one c.in-len1-up.len_at_least c.slot-item.is c.in-Some.is)
