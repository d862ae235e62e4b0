use Rattle.std.proofs.Common.{◌≡◌, ◌∙◌, refl, ◌+◌, ◌-◌, ◌++◌, ◌≤◌, sym, ap, subst, ℕ, suc, List, length, take, drop, get_or, Option, Bool, arith}
use Rattle.std.specs.Prelude.{is_some, if◌then◌else◌, not, ◌&&◌, ◌||◌, ◌==◌, ◌%◌, vec_capacity}
use Rattle.std.proofs.lemmas.List.{length-take-le}
use Rattle.ix_extension.specs.Extensions.{view_extension}
use Rattle.ix_plan.specs.Units as units
use Rattle.rv_harts.specs.BarrelRows.{hart_setting}
use Rattle.rv_harts.specs.declared.event.EventAt.{EventAt}
use Rattle.rv_harts.specs.Harts.{Fetched}
use Rattle.rv_harts.specs.HartRows as rows
use Rattle.rv_harts.specs.HartRows.{hart_at, hart_row, event_in, event_at, serial_out, stopping, leaving, entering, retired_of, written_by, redirect_of, address_after, below, lost, owed_after, flushed_in}
use Rattle.rv_harts.specs.HartStates.{architecture}
use Rattle.rv_lawful.specs.Outstanding.{Written, after_written, after_retired}
use Rattle.rv_seq.specs.declared.arch.Arch.{Arch}
use Rattle.rv_seq.specs.declared.commit.Stop.{Stop}
use Rattle.rv_barrel.specs.declared.cell.InFlight.{InFlight}
use Rattle.rv_barrel.specs.declared.cell.Owed.{Owed}
use Rattle.rv_barrel.specs.Cells.{Slots, count, AreAsked, AreOwed}
use Rattle.rv_barrel.specs.Owing.{entering_by, owed_by, unit_entered, without_serial}
use Rattle.rv_barrel.specs.Paying.{IsStoredSlot, arch_by}
use Rattle.rv_barrel.specs.Showing.{retired_by, serials_of}
use Rattle.rv_barrel.specs.Sides.{stop_by}
use Rattle.rv_barrel.specs.Turning.{AreTried}
use Rattle.rv_barrel.specs.Moving.{fetched_in}
use Rattle.rv_barrel.proofs.Beginning.{new_of}
use Rattle.rv_barrel.proofs.Moves.{one_in}
use Rattle.rv_seq.specs.Runs.{run}
use Rattle.rv_trace.specs.RowParts.{in_five}
use Rattle.rv_unit.specs.Timed.{CanEnter}
use Rattle.rv_barrel.proofs.Owings.{owed_long, entered_is}
use Rattle.rv_barrel.proofs.Next.{part_there, state_there, cells_there, flushed_there, stop_there, fetch_next, next_next, owed_there, units_next, stopped_next, retired_on, slots_by, stages_next, long_next, asked_next, tried_next, idle_next, executed_next, some_there, fetched_is}
use Rattle.rv_barrel.proofs.Paid.{stored_is, can_enter, room_is, owed_next, arch_there}
use Rattle.rv_barrel.proofs.Views.{last_slot}
use Rattle.rv_barrel.proofs.Whole.{begun, free_first, at_there, out_is, event_is_in, below_inside, lost_few, event_near, last_got, last_stage, going_last, leaving_is, retired_there}
use Rattle.rv_barrel.proofs.side.row_in.Goals as goal

pub prepare-new-requires-clause-free : goal.prepare-new-requires-clause-free
prepare-new-requires-clause-free c =
    let k = hart_setting c.args.design.now c.args.image.now in
    let g = hart_at k c.args.hart c.args.row in
    free_first g.retired c.args.slots.now g.above c.requires.side.above

pub slice_bounds-serials_in-end : goal.slice_bounds-serials_in-end
slice_bounds-serials_in-end c =
    let d = c.args.design.now in
    let image = c.args.image.now in
    let h = c.args.hart in
    let n = c.args.row in
    let x = view_extension d.extension in
    let k = hart_setting d image in
    let g = hart_at (hart_setting d image) h n in
    let s = c.args.slots.now in
    let s1 = c.prepare-new.new.slots in
    let ahead = c.args.ahead.now in
    let items = c.args.owed.now.items in
    let new = new_of d image c.may_fetch_in-may_fetch.result c.args.front.now.next c.args.front.now.fetch in
    let b = begun d image h n s s1 c.args.front.now ahead c.args.arch.now c.args.units.now items _ c.may_fetch_in-may_fetch.result new c.requires.side c.may_fetch_in-may_fetch.ensures refl c.prepare-new.ensures.slots in
    let out = out_is d image h n s c.args.front.now ahead c.args.arch.now c.args.units.now items _ c.steps_in-steps.result c.serial_in_row-out.result c.requires.side c.steps_in-steps.ensures c.serial_in_row-out.ensures.serial in
    let event = event_is_in d image h n s s1 c.args.front.now ahead c.args.arch.now c.args.units.now items _ new c.serial_in_row-out.result c.event_from-event.result c.requires.side b out
    (λ k q all core asked tried owed. c.event_from-event.ensures k q all core asked tried (subst (λ (l : List Owed). AreOwed k l all) (sym c.as_slice.ensures.value) owed)) in
    let few = below_inside d image h n s1 new ahead c.event_from-event.result b event in
    omega (arith, few, c.from.ensures, c.below.ensures)

pub slice_bounds-serials_in-end-2 : goal.slice_bounds-serials_in-end-2
slice_bounds-serials_in-end-2 c =
    let d = c.args.design.now in
    let image = c.args.image.now in
    let h = c.args.hart in
    let n = c.args.row in
    let x = view_extension d.extension in
    let k = hart_setting d image in
    let g = hart_at (hart_setting d image) h n in
    let s = c.args.slots.now in
    let s1 = c.prepare-new.new.slots in
    let ahead = c.args.ahead.now in
    let items = c.args.owed.now.items in
    let new = new_of d image c.may_fetch_in-may_fetch.result c.args.front.now.next c.args.front.now.fetch in
    let b = begun d image h n s s1 c.args.front.now ahead c.args.arch.now c.args.units.now items _ c.may_fetch_in-may_fetch.result new c.requires.side c.may_fetch_in-may_fetch.ensures refl c.prepare-new.ensures.slots in
    let out = out_is d image h n s c.args.front.now ahead c.args.arch.now c.args.units.now items _ c.steps_in-steps.result c.serial_in_row-out.result c.requires.side c.steps_in-steps.ensures c.serial_in_row-out.ensures.serial in
    let event = event_is_in d image h n s s1 c.args.front.now ahead c.args.arch.now c.args.units.now items _ new c.serial_in_row-out.result c.event_from-event.result c.requires.side b out
    (λ k q all core asked tried owed. c.event_from-event.ensures k q all core asked tried (subst (λ (l : List Owed). AreOwed k l all) (sym c.as_slice.ensures.value) owed)) in
    let few = below_inside d image h n s1 new ahead c.event_from-event.result b event in
    sym (length-take-le c.from.result s1 (omega (arith, few, c.from.ensures, c.below.ensures)))

pub pay-requires-clause-stored : goal.pay-requires-clause-stored
pay-requires-clause-stored c =
    let d = c.args.design.now in
    let image = c.args.image.now in
    let h = c.args.hart in
    let n = c.args.row in
    let x = view_extension d.extension in
    let k = hart_setting d image in
    let g = hart_at (hart_setting d image) h n in
    let s = c.args.slots.now in
    let s1 = c.prepare-new.new.slots in
    let ahead = c.args.ahead.now in
    let items = c.args.owed.now.items in
    let new = new_of d image c.may_fetch_in-may_fetch.result c.args.front.now.next c.args.front.now.fetch in
    let b = begun d image h n s s1 c.args.front.now ahead c.args.arch.now c.args.units.now items _ c.may_fetch_in-may_fetch.result new c.requires.side c.may_fetch_in-may_fetch.ensures refl c.prepare-new.ensures.slots in
    let out = out_is d image h n s c.args.front.now ahead c.args.arch.now c.args.units.now items _ c.steps_in-steps.result c.serial_in_row-out.result c.requires.side c.steps_in-steps.ensures c.serial_in_row-out.ensures.serial in
    let event = event_is_in d image h n s s1 c.args.front.now ahead c.args.arch.now c.args.units.now items _ new c.serial_in_row-out.result c.event_from-event.result c.requires.side b out
    (λ k q all core asked tried owed. c.event_from-event.ensures k q all core asked tried (subst (λ (l : List Owed). AreOwed k l all) (sym c.as_slice.ensures.value) owed)) in
    let long = last_stage d s1 b.long in
    let last : get_or s1 (c.from-2.result - 1) c.index-slots-from.result ≡ last_slot s1 = last_got (c.from-2.result - 1) s1 c.index-slots-from.result (omega (arith, long, c.from-2.ensures)) in
    let going = going_last d image h n s1 new ahead b c.requires.known in
    subst (λ (slot : Option InFlight). IsStoredSlot slot) (sym last) (stored_is d image g.retired (last_slot s1) c.sound_steps.ensures going)

pub pay-requires-clause-enters : goal.pay-requires-clause-enters
pay-requires-clause-enters c =
    let d = c.args.design.now in
    let image = c.args.image.now in
    let h = c.args.hart in
    let n = c.args.row in
    let x = view_extension d.extension in
    let k = hart_setting d image in
    let g = hart_at (hart_setting d image) h n in
    let s = c.args.slots.now in
    let s1 = c.prepare-new.new.slots in
    let ahead = c.args.ahead.now in
    let items = c.args.owed.now.items in
    let new = new_of d image c.may_fetch_in-may_fetch.result c.args.front.now.next c.args.front.now.fetch in
    let b = begun d image h n s s1 c.args.front.now ahead c.args.arch.now c.args.units.now items _ c.may_fetch_in-may_fetch.result new c.requires.side c.may_fetch_in-may_fetch.ensures refl c.prepare-new.ensures.slots in
    let out = out_is d image h n s c.args.front.now ahead c.args.arch.now c.args.units.now items _ c.steps_in-steps.result c.serial_in_row-out.result c.requires.side c.steps_in-steps.ensures c.serial_in_row-out.ensures.serial in
    let event = event_is_in d image h n s s1 c.args.front.now ahead c.args.arch.now c.args.units.now items _ new c.serial_in_row-out.result c.event_from-event.result c.requires.side b out
    (λ k q all core asked tried owed. c.event_from-event.ensures k q all core asked tried (subst (λ (l : List Owed). AreOwed k l all) (sym c.as_slice.ensures.value) owed)) in
    let long = last_stage d s1 b.long in
    let last : get_or s1 (c.from-2.result - 1) c.index-slots-from.result ≡ last_slot s1 = last_got (c.from-2.result - 1) s1 c.index-slots-from.result (omega (arith, long, c.from-2.ensures)) in
    let going = going_last d image h n s1 new ahead b c.requires.known in
    subst (λ (slot : Option InFlight). CanEnter c.args.units.now.lasts c.args.units.now.entries (unit_entered (entering_by slot))) (sym last)
    (can_enter d image h n s s1 c.args.front.now ahead c.args.arch.now c.args.units.now items _ new c.requires.side b c.requires.known going c.serial_in_row-out.ensures.units c.serial_in_row-out.ensures.timed c.unit_laws.ensures.frozen)

pub pay-requires-clause-room : goal.pay-requires-clause-room
pay-requires-clause-room c =
    let d = c.args.design.now in
    let image = c.args.image.now in
    let h = c.args.hart in
    let n = c.args.row in
    let x = view_extension d.extension in
    let k = hart_setting d image in
    let g = hart_at (hart_setting d image) h n in
    let s = c.args.slots.now in
    let s1 = c.prepare-new.new.slots in
    let ahead = c.args.ahead.now in
    let items = c.args.owed.now.items in
    let new = new_of d image c.may_fetch_in-may_fetch.result c.args.front.now.next c.args.front.now.fetch in
    let b = begun d image h n s s1 c.args.front.now ahead c.args.arch.now c.args.units.now items _ c.may_fetch_in-may_fetch.result new c.requires.side c.may_fetch_in-may_fetch.ensures refl c.prepare-new.ensures.slots in
    let out = out_is d image h n s c.args.front.now ahead c.args.arch.now c.args.units.now items _ c.steps_in-steps.result c.serial_in_row-out.result c.requires.side c.steps_in-steps.ensures c.serial_in_row-out.ensures.serial in
    let event = event_is_in d image h n s s1 c.args.front.now ahead c.args.arch.now c.args.units.now items _ new c.serial_in_row-out.result c.event_from-event.result c.requires.side b out
    (λ k q all core asked tried owed. c.event_from-event.ensures k q all core asked tried (subst (λ (l : List Owed). AreOwed k l all) (sym c.as_slice.ensures.value) owed)) in
    let long = last_stage d s1 b.long in
    let last : get_or s1 (c.from-2.result - 1) c.index-slots-from.result ≡ last_slot s1 = last_got (c.from-2.result - 1) s1 c.index-slots-from.result (omega (arith, long, c.from-2.ensures)) in
    let going = going_last d image h n s1 new ahead b c.requires.known in
    subst (λ (slot : Option InFlight). length (without_serial c.serial_in_row-out.result items ++ owed_by (entering_by slot)) ≤ vec_capacity c.args.owed.now) (sym last)
    (room_is d image h n s1 new ahead items c.serial_in_row-out.result (vec_capacity c.args.owed.now) b going c.requires.side.owing out c.requires.known c.requires.side.capacity)

pub settle-requires-clause-event : goal.settle-requires-clause-event
settle-requires-clause-event c =
    let d = c.args.design.now in
    let image = c.args.image.now in
    let h = c.args.hart in
    let n = c.args.row in
    let x = view_extension d.extension in
    let k = hart_setting d image in
    let g = hart_at (hart_setting d image) h n in
    let s = c.args.slots.now in
    let s1 = c.prepare-new.new.slots in
    let ahead = c.args.ahead.now in
    let items = c.args.owed.now.items in
    let new = new_of d image c.may_fetch_in-may_fetch.result c.args.front.now.next c.args.front.now.fetch in
    let b = begun d image h n s s1 c.args.front.now ahead c.args.arch.now c.args.units.now items _ c.may_fetch_in-may_fetch.result new c.requires.side c.may_fetch_in-may_fetch.ensures refl c.prepare-new.ensures.slots in
    let out = out_is d image h n s c.args.front.now ahead c.args.arch.now c.args.units.now items _ c.steps_in-steps.result c.serial_in_row-out.result c.requires.side c.steps_in-steps.ensures c.serial_in_row-out.ensures.serial in
    let event = event_is_in d image h n s s1 c.args.front.now ahead c.args.arch.now c.args.units.now items _ new c.serial_in_row-out.result c.event_from-event.result c.requires.side b out
    (λ k q all core asked tried owed. c.event_from-event.ensures k q all core asked tried (subst (λ (l : List Owed). AreOwed k l all) (sym c.as_slice.ensures.value) owed)) in
    event_near d image h n s1 new ahead c.event_from-event.result b event

pub returns-clause-cells : goal.returns-clause-cells
returns-clause-cells c =
    let d = c.args.design.now in
    let image = c.args.image.now in
    let h = c.args.hart in
    let n = c.args.row in
    let x = view_extension d.extension in
    let k = hart_setting d image in
    let g = hart_at (hart_setting d image) h n in
    let s = c.args.slots.now in
    let s1 = c.prepare-new.new.slots in
    let ahead = c.args.ahead.now in
    let items = c.args.owed.now.items in
    let new = new_of d image c.may_fetch_in-may_fetch.result c.args.front.now.next c.args.front.now.fetch in
    let b = begun d image h n s s1 c.args.front.now ahead c.args.arch.now c.args.units.now items _ c.may_fetch_in-may_fetch.result new c.requires.side c.may_fetch_in-may_fetch.ensures refl c.prepare-new.ensures.slots in
    let out = out_is d image h n s c.args.front.now ahead c.args.arch.now c.args.units.now items _ c.steps_in-steps.result c.serial_in_row-out.result c.requires.side c.steps_in-steps.ensures c.serial_in_row-out.ensures.serial in
    let event = event_is_in d image h n s s1 c.args.front.now ahead c.args.arch.now c.args.units.now items _ new c.serial_in_row-out.result c.event_from-event.result c.requires.side b out
    (λ k q all core asked tried owed. c.event_from-event.ensures k q all core asked tried (subst (λ (l : List Owed). AreOwed k l all) (sym c.as_slice.ensures.value) owed)) in
    c.cells_of-cells.ensures ∙ cells_there d image h n s1 new ahead c.event_from-event.result b event

pub returns-clause-part : goal.returns-clause-part
returns-clause-part c =
    let d = c.args.design.now in
    let image = c.args.image.now in
    let h = c.args.hart in
    let n = c.args.row in
    let x = view_extension d.extension in
    let k = hart_setting d image in
    let g = hart_at (hart_setting d image) h n in
    let s = c.args.slots.now in
    let s1 = c.prepare-new.new.slots in
    let ahead = c.args.ahead.now in
    let items = c.args.owed.now.items in
    let new = new_of d image c.may_fetch_in-may_fetch.result c.args.front.now.next c.args.front.now.fetch in
    let b = begun d image h n s s1 c.args.front.now ahead c.args.arch.now c.args.units.now items _ c.may_fetch_in-may_fetch.result new c.requires.side c.may_fetch_in-may_fetch.ensures refl c.prepare-new.ensures.slots in
    let out = out_is d image h n s c.args.front.now ahead c.args.arch.now c.args.units.now items _ c.steps_in-steps.result c.serial_in_row-out.result c.requires.side c.steps_in-steps.ensures c.serial_in_row-out.ensures.serial in
    let event = event_is_in d image h n s s1 c.args.front.now ahead c.args.arch.now c.args.units.now items _ new c.serial_in_row-out.result c.event_from-event.result c.requires.side b out
    (λ k q all core asked tried owed. c.event_from-event.ensures k q all core asked tried (subst (λ (l : List Owed). AreOwed k l all) (sym c.as_slice.ensures.value) owed)) in
    let long = last_stage d s1 b.long in
    let last : get_or s1 (c.from-2.result - 1) c.index-slots-from.result ≡ last_slot s1 = last_got (c.from-2.result - 1) s1 c.index-slots-from.result (omega (arith, long, c.from-2.ensures)) in
    let going = going_last d image h n s1 new ahead b c.requires.known in
    let may = c.may_fetch_in-may_fetch.ensures ∙ ap (λ (t : Bool). ((n % 2) == h) && not t) c.requires.side.stopped in
    let owing = subst (λ (slot : Option InFlight). AreOwed k (without_serial c.serial_in_row-out.result items ++ owed_by (entering_by slot)) (owed_after k h n g)) (sym last) (owed_next d image h n s1 new ahead items c.serial_in_row-out.result b going c.requires.side.owing out) in
    let kept : AreOwed k c.pay.new.owed.items (owed_after k h n g) = subst (λ (l : List Owed). AreOwed k l (owed_after k h n g)) (sym c.pay.ensures.owed) owing in
    let many : length c.as_slice-2.result.now ≡ length (owed_after k h n g) = ap (λ (l : List Owed). length l) c.as_slice-2.ensures.value ∙ owed_long k c.pay.new.owed.items (owed_after k h n g) kept in
    let stop = stop_there d image h n s1 new ahead c.event_from-event.result c.may_fetch_in-may_fetch.result (length c.as_slice-2.result.now) c.stopping-stop.result b event may many
    (c.stopping-stop.ensures ∙ ap (λ (o : Option Stop). stop_by o (c.may_fetch_in-may_fetch.result && (count s1 == 0) && (length c.as_slice-2.result.now == 0))) c.stop_of.ensures) in
    let retired = c.pay.ensures.retired ∙ ap retired_by last ∙ retired_there k g.retired (last_slot s1) going ∙ ap (retired_of k) (leaving_is d image h n s1 new ahead b) in
    let written = c.pay.ensures.written k g.owed c.requires.side.owing ∙ ap (written_by k g.owed) out in
    let flushed = c.serials_in-flushed.ensures ∙ ap (λ (m : ℕ). in_five (serials_of (take m s1))) (c.from.ensures ∙ c.below.ensures) ∙ flushed_there d image h n s1 new ahead c.event_from-event.result b event in
    let redirect = c.redirect-part.ensures ∙ ap (λ (e : Option EventAt). redirect_of (event_at e)) event in
    part_there k h n retired written flushed redirect stop

pub returns-clause-side : goal.returns-clause-side
returns-clause-side c =
    let d = c.args.design.now in
    let image = c.args.image.now in
    let h = c.args.hart in
    let n = c.args.row in
    let x = view_extension d.extension in
    let k = hart_setting d image in
    let g = hart_at (hart_setting d image) h n in
    let s = c.args.slots.now in
    let s1 = c.prepare-new.new.slots in
    let ahead = c.args.ahead.now in
    let items = c.args.owed.now.items in
    let new = new_of d image c.may_fetch_in-may_fetch.result c.args.front.now.next c.args.front.now.fetch in
    let b = begun d image h n s s1 c.args.front.now ahead c.args.arch.now c.args.units.now items _ c.may_fetch_in-may_fetch.result new c.requires.side c.may_fetch_in-may_fetch.ensures refl c.prepare-new.ensures.slots in
    let out = out_is d image h n s c.args.front.now ahead c.args.arch.now c.args.units.now items _ c.steps_in-steps.result c.serial_in_row-out.result c.requires.side c.steps_in-steps.ensures c.serial_in_row-out.ensures.serial in
    let event = event_is_in d image h n s s1 c.args.front.now ahead c.args.arch.now c.args.units.now items _ new c.serial_in_row-out.result c.event_from-event.result c.requires.side b out
    (λ k q all core asked tried owed. c.event_from-event.ensures k q all core asked tried (subst (λ (l : List Owed). AreOwed k l all) (sym c.as_slice.ensures.value) owed)) in
    let long = last_stage d s1 b.long in
    let last : get_or s1 (c.from-2.result - 1) c.index-slots-from.result ≡ last_slot s1 = last_got (c.from-2.result - 1) s1 c.index-slots-from.result (omega (arith, long, c.from-2.ensures)) in
    let going = going_last d image h n s1 new ahead b c.requires.known in
    let may = c.may_fetch_in-may_fetch.ensures ∙ ap (λ (t : Bool). ((n % 2) == h) && not t) c.requires.side.stopped in
    let owing = subst (λ (slot : Option InFlight). AreOwed k (without_serial c.serial_in_row-out.result items ++ owed_by (entering_by slot)) (owed_after k h n g)) (sym last) (owed_next d image h n s1 new ahead items c.serial_in_row-out.result b going c.requires.side.owing out) in
    let kept : AreOwed k c.pay.new.owed.items (owed_after k h n g) = subst (λ (l : List Owed). AreOwed k l (owed_after k h n g)) (sym c.pay.ensures.owed) owing in
    let many : length c.as_slice-2.result.now ≡ length (owed_after k h n g) = ap (λ (l : List Owed). length l) c.as_slice-2.ensures.value ∙ owed_long k c.pay.new.owed.items (owed_after k h n g) kept in
    let stop = stop_there d image h n s1 new ahead c.event_from-event.result c.may_fetch_in-may_fetch.result (length c.as_slice-2.result.now) c.stopping-stop.result b event may many
    (c.stopping-stop.ensures ∙ ap (λ (o : Option Stop). stop_by o (c.may_fetch_in-may_fetch.result && (count s1 == 0) && (length c.as_slice-2.result.now == 0))) c.stop_of.ensures) in
    let retired = c.pay.ensures.retired ∙ ap retired_by last ∙ retired_there k g.retired (last_slot s1) going ∙ ap (retired_of k) (leaving_is d image h n s1 new ahead b) in
    let written = c.pay.ensures.written k g.owed c.requires.side.owing ∙ ap (written_by k g.owed) out in
    let some : is_some c.stopping-stop.result ≡ is_some (stopping k h n g) = ap (λ (o : Option Stop). is_some o) stop in
    let t = c.is_some-2.result in
    let tested : c.is_some-2.result ≡ is_some c.stopping-stop.result = c.is_some-2.ensures in
    let slots : c.settle.new.slots ≡ slots_by (is_some c.stopping-stop.result) (lost c.event_from-event.result) s1 = c.settle.ensures.slots ∙ ap (λ (v : Bool). slots_by v (lost c.event_from-event.result) s1) tested in
    let few = lost_few d image h n s1 new ahead c.event_from-event.result b event in
    record {
      above = stages_next d image h n s1 c.settle.new.slots new ahead c.event_from-event.result c.stopping-stop.result b event stop slots;
      long = ap (λ (l : Slots). length l) slots ∙ long_next (is_some c.stopping-stop.result) (lost c.event_from-event.result) s1 ∙ b.long;
      asked = subst (λ (l : Slots). AreAsked k l) (sym slots) (asked_next k (is_some c.stopping-stop.result) (lost c.event_from-event.result) (d.sheet.shape.stages - 1) s1 long b.asked);
      tried = subst (λ (q : ℕ). AreTried k (suc k.shape.ex) q 0 c.settle.new.slots) (retired_on d image h n s1 new ahead b) (subst (λ (l : Slots). AreTried k (suc k.shape.ex) (g.retired + one_in (last_slot s1)) 0 l) (sym slots) (tried_next k g.retired (is_some c.stopping-stop.result) (lost c.event_from-event.result) (d.sheet.shape.stages - 1) s1 long few b.tried));
      idle = λ stands. ap (λ (l : Slots). count l) slots ∙ idle_next d image h n s1 new ahead (lost c.event_from-event.result) (is_some c.stopping-stop.result) b some stands;
      fetch = c.front_after.ensures.fetch (fetched_in b.place new) (c.prepare-new.ensures.new ∙ sym (fetched_is b.place new)) (at_there d image c.may_fetch_in-may_fetch.result c.args.front.now.next c.args.front.now.fetch b.place)
          ∙ ap (λ (f : Option Fetched). address_after c.args.front.now.fetch f (event_at c.event_from-event.result)) b.entering
          ∙ ap (λ (e : Option EventAt). address_after c.args.front.now.fetch (entering k h n g) (event_at e)) event
          ∙ ap (λ (m : ℕ). address_after m (entering k h n g) (event_at (event_in k h n g))) c.requires.side.fetch
          ∙ sym (fetch_next k h n);
      next = c.front_after.ensures.next
          ∙ ap (λ (v : Bool). if v then suc c.args.front.now.next else c.args.front.now.next) (c.prepare-new.ensures.new ∙ some_there d image h n s1 new ahead b)
          ∙ ap (λ (m : ℕ). if is_some (entering k h n g) then suc m else m) c.requires.side.next
          ∙ sym (next_next k h n);
      stopped = c.front_after.ensures.stopped
          ∙ ap (λ (v : Bool). c.args.front.now.stopped || v) (c.is_some.ensures ∙ some)
          ∙ ap (λ (v : Bool). v || is_some (stopping k h n g)) c.requires.side.stopped
          ∙ sym (stopped_next k h n);
      executed = λ goes.
          executed_next d image h n s1 new ahead c.settle.new.ahead c.event_from-event.result (is_some c.stopping-stop.result) b c.requires.known event some c.settle.ensures.ahead goes
          ∙ sym (ap (λ (l : Slots). run x image ((hart_at k h (suc n)).retired + count (drop (suc k.shape.ex) l))) slots);
      wide = c.settle.ensures.wide;
      state = c.pay.ensures.arch
          ∙ ap (λ (w : Option Written). after_written w (arch_by x (get_or s1 (c.from-2.result - 1) c.index-slots-from.result) c.args.arch.now)) written
          ∙ ap (λ (slot : Option InFlight). after_written (written_by k g.owed (serial_out k h n g)) (arch_by x slot c.args.arch.now)) last
          ∙ ap (λ (a : Arch). after_written (written_by k g.owed (serial_out k h n g)) (arch_by x (last_slot s1) a)) c.requires.side.state
          ∙ ap (λ (a : Arch). after_written (written_by k g.owed (serial_out k h n g)) a) (arch_there d image g.retired (last_slot s1) (architecture x k h n) going)
          ∙ ap (λ (f : Option Fetched). after_written (written_by k g.owed (serial_out k h n g)) (after_retired x k g.retired (retired_of k f) (architecture x k h n))) (leaving_is d image h n s1 new ahead b)
          ∙ ap (λ (m : ℕ). after_written (written_by k g.owed (serial_out k h n g)) (after_retired x k m (retired_of k (leaving k h n g)) (architecture x k h n))) c.requires.known.counted
          ∙ state_there x k h n;
      standing = c.pay.ensures.units
          ∙ ap (λ (us : List units.Slots). if c.steps_in-steps.result then us else units.next_units (unit_entered (entering_by (get_or s1 (c.from-2.result - 1) c.index-slots-from.result))) us) c.requires.side.standing
          ∙ ap (λ (slot : Option InFlight). if c.steps_in-steps.result then g.units else units.next_units (unit_entered (entering_by slot)) g.units) last
          ∙ ap (λ (e : Option (ℕ × ℕ)). if c.steps_in-steps.result then g.units else units.next_units e g.units) (entered_is k g.retired (last_slot s1) going ∙ ap (rows.unit_entered k) (leaving_is d image h n s1 new ahead b))
          ∙ ap (λ (v : Bool). if v then g.units else units.next_units (rows.unit_entered k (leaving k h n g)) g.units) (c.steps_in-steps.ensures ∙ ap (λ (v : Bool). not (((n + (d.sheet.shape.stages - 1)) % 2) == h) && not v) c.requires.side.stopped)
          ∙ sym (units_next k h n);
      stages = c.pay.ensures.stages ∙ c.requires.side.stages;
      lasts = ap (λ (l : List ℕ). length l) c.pay.ensures.lasts ∙ c.requires.side.lasts;
      owing = subst (λ (l : List Fetched). AreOwed k c.pay.new.owed.items l) (sym (owed_there k h n)) kept;
      capacity = omega (arith, c.requires.side.capacity, c.pay.ensures.capacity);
    }
