use Rattle.std.proofs.Common.{rules, ℕ, Bool, ◌+◌, ◌≡◌, true, suc, ◌<◌, ◌≤◌, ◌∙◌, refl, ap, sym, subst, drop, length, List, Option, None, arith}
use Rattle.std.specs.Prelude.{IfSome, ◌&&◌, not}
use Rattle.rv_lawful.specs.Outstanding.{after_entry}
use Rattle.std.specs.Option.{option_copied}
use Rattle.rv_seq.specs.Interrupts.{is_enabled}
use Rattle.rv_engine.specs.Settings.{setting, pending_by, interrupted_by}
use Rattle.ix_bits.specs.declared.number.Bits.{Bits}
use Rattle.ix_extension.specs.Extensions.{view_extension}
use Rattle.rv_seq.specs.WordEffects.{AreWide}
use Rattle.rv_unit.specs.Timed.{CanEnter}
use Rattle.rv_holds.specs.declared.token.Token.{Token}
use Rattle.rv_holds.specs.Tokens.{Slots}
use Rattle.rv_holds.specs.declared.flushing.Turn.{Turn}
use Rattle.rv_holds.specs.Flushing.{enters, turn_with, struck, redirect_of, cleared, fetch_after}
use Rattle.rv_engine.specs.declared.owing.Owed.{Owed}
use Rattle.rv_engine.specs.Owing.{Outstanding, outstanding_of, unit_entered, outstanding_after}
use Rattle.rv_engine.specs.Showing.{shown_with}
use Rattle.rv_engine.proofs.Seats.{shown_same}
use Rattle.rv_engine.specs.Rows.{new_by, next_after, machine_after, unless, accesses_after, memory_by, stood_after, executed_by, file_early, left_by, paid_by, written_by, taken_by, outstanding_by, advanced, fetch_by, seen_by, turn_by, entered_by, loaded_by, native_of, going, leaving, first_slot, file_late, file_paid, entering_of}
use Rattle.rv_engine.specs.Kept.{machine_with, AreFitting, AreWideOwed, IsWideOwed, IsLastOpen}
use Rattle.rv_engine.proofs.Fitting.{cleared_fitting, advanced_fitting, leaving_fitting, first_fitting, drop_fitting, going_fitting, stored_inside}
use Rattle.rv_engine.proofs.Widths.{early_file_wide, late_file_wide, paid_file_wide, paying_wide, after_wide}
use Rattle.rv_engine.proofs.Going.{slot_at}
use Rattle.rv_engine.proofs.Opening.{cleared_open, leaving_open, struck_with_few}
use Rattle.rv_seq.specs.declared.arch.Arch.{Arch}
use Rattle.rv_engine.proofs.Enabled.{second_holds, enabled_after, interrupted_at}
use Rattle.rv_engine.proofs.engine.row_of.Goals as goal

pub write-requires-clause-stored : goal.write-requires-clause-stored
write-requires-clause-stored c =
    let d = c.args.design.now in
    let turn = turn_with d.sheet.shape c.is_interrupted-interrupted.result c.args.front.now.fetch c.prepare-next.new.slots in
    let seen : AreFitting d c.flush-left.new.slots =
    subst (λ (z : Slots). AreFitting d z) (sym (c.flush-left.ensures.slots ∙ ap (λ (o : Option Turn). cleared (struck o) c.prepare-next.new.slots) (c.turn_in-turn.ensures.turn c.is_interrupted-interrupted.result c.enters-entered.ensures))) (cleared_fitting d (struck turn) c.prepare-next.new.slots c.prepare-next.ensures.fitting) in
    stored_inside d (leaving None c.flush-left.new.slots) (leaving_fitting d None c.flush-left.new.slots tt seen)

pub cycle-requires : goal.cycle-requires
cycle-requires c =
    let d = c.args.design.now in
    let o = c.args.owing.now in
    let turn = turn_with d.sheet.shape c.is_interrupted-interrupted.result c.args.front.now.fetch c.prepare-next.new.slots in
    let before = c.prepare-next.new.slots in
    let slots = c.flush-left.new.slots in
    let a = d.sheet.shape.lawful.memory_inside in
    let long = c.prepare-next.ensures.stages in
    let inside : suc d.sheet.shape.ex < length before = let b = d.sheet.shape.lawful.memory_late in omega (arith, a, b, long) in
    let few : struck turn ≤ length before = struck_with_few d.sheet.shape c.is_interrupted-interrupted.result c.args.front.now.fetch before inside in
    let some : 0 < length slots = let e = c.flush-left.auto.slots in omega (arith, e, long, a) in
    let seen : AreFitting d slots = subst (λ (z : Slots). AreFitting d z) (sym (c.flush-left.ensures.slots ∙ ap (λ (o : Option Turn). cleared (struck o) c.prepare-next.new.slots) (c.turn_in-turn.ensures.turn c.is_interrupted-interrupted.result c.enters-entered.ensures))) (cleared_fitting d (struck turn) before c.prepare-next.ensures.fitting) in
    let opened : IsLastOpen o slots = subst (λ (z : Slots). IsLastOpen o z) (sym (c.flush-left.ensures.slots ∙ ap (λ (o : Option Turn). cleared (struck o) c.prepare-next.new.slots) (c.turn_in-turn.ensures.turn c.is_interrupted-interrupted.result c.enters-entered.ensures))) (cleared_open o (struck turn) before few c.prepare-next.ensures.open) in
    subst (λ (s : Option Token). CanEnter o.lasts o.entries (unit_entered (entering_of s))) (sym c.last-2.ensures) (leaving_open d o c.requires.owing.lasts None slots some seen opened)

pub returns-clause-future : goal.returns-clause-future
returns-clause-future c =
    let d = c.args.design.now in
    let x = view_extension d.extension in
    let o = c.args.owing.now in
    let turn = turn_with d.sheet.shape c.is_interrupted-interrupted.result c.args.front.now.fetch c.prepare-next.new.slots in
    let slots = c.flush-left.new.slots in
    let seen : AreFitting d slots =
    subst (λ (z : Slots). AreFitting d z) (sym (c.flush-left.ensures.slots ∙ ap (λ (o : Option Turn). cleared (struck o) c.prepare-next.new.slots) (c.turn_in-turn.ensures.turn c.is_interrupted-interrupted.result c.enters-entered.ensures))) (cleared_fitting d (struck turn) c.prepare-next.new.slots c.prepare-next.ensures.fitting) in
    let wide : IfSome (option_copied c.paying-paying.result) (IsWideOwed x) = subst (λ (w : Option Owed). IfSome w (IsWideOwed x)) (sym c.paying-paying.ensures) (paying_wide x o.lasts o.entries o.entries o.owed c.requires.owed) in
    let paid = paid_file_wide x (option_copied c.paying-paying.result) c.args.future.now wide c.requires.future in
    let late = late_file_wide d (leaving None slots) (file_paid (option_copied c.paying-paying.result) c.args.future.now) (leaving_fitting d None slots tt seen) paid in
    let first = going_fitting d (first_slot (drop d.sheet.shape.ex slots)) (first_fitting d (drop d.sheet.shape.ex slots) (drop_fitting d d.sheet.shape.ex slots seen)) in
    subst (λ (file : List Bits). AreWide x file) (sym c.write.ensures.future)
    (early_file_wide d (going (first_slot (drop d.sheet.shape.ex slots))) (file_late (leaving None slots) (file_paid (option_copied c.paying-paying.result) c.args.future.now)) first late)

pub returns-clause-fitting : goal.returns-clause-fitting
returns-clause-fitting c =
    let d = c.args.design.now in
    let turn = turn_with d.sheet.shape c.is_interrupted-interrupted.result c.args.front.now.fetch c.prepare-next.new.slots in
    let seen : AreFitting d c.flush-left.new.slots =
    subst (λ (z : Slots). AreFitting d z) (sym (c.flush-left.ensures.slots ∙ ap (λ (o : Option Turn). cleared (struck o) c.prepare-next.new.slots) (c.turn_in-turn.ensures.turn c.is_interrupted-interrupted.result c.enters-entered.ensures))) (cleared_fitting d (struck turn) c.prepare-next.new.slots c.prepare-next.ensures.fitting) in
    subst (λ (z : Slots). AreFitting d z) (sym c.advance.ensures) (advanced_fitting d None c.flush-left.new.slots tt seen)

pub returns-clause-owed : goal.returns-clause-owed
returns-clause-owed c =
    let d = c.args.design.now in
    let x = view_extension d.extension in
    let o = c.args.owing.now in
    let turn = turn_with d.sheet.shape c.is_interrupted-interrupted.result c.args.front.now.fetch c.prepare-next.new.slots in
    let slots = c.flush-left.new.slots in
    let seen : AreFitting d slots =
    subst (λ (z : Slots). AreFitting d z) (sym (c.flush-left.ensures.slots ∙ ap (λ (o : Option Turn). cleared (struck o) c.prepare-next.new.slots) (c.turn_in-turn.ensures.turn c.is_interrupted-interrupted.result c.enters-entered.ensures))) (cleared_fitting d (struck turn) c.prepare-next.new.slots c.prepare-next.ensures.fitting) in
    let after : c.cycle.new.self ≡ outstanding_after o (entering_of (leaving None slots)) = c.cycle.ensures ∙ ap (λ (s : Option Token). outstanding_after o (entering_of s)) c.last-2.ensures in
    subst (λ (v : Outstanding). AreWideOwed x v.owed) (sym after) (after_wide d o (leaving None slots) (leaving_fitting d None slots tt seen) c.requires.owed)

pub returns-clause-shown : goal.returns-clause-shown
returns-clause-shown c =
    let d = c.args.design.now in
    let k = d.sheet.shape in
    let o = c.args.owing.now in
    let i = c.is_interrupted-interrupted.result in
    let fetch = c.args.front.now.fetch in
    let lines = option_copied c.args.lines in
    let s = setting d c.args.image.now c.args.waits.now lines in
    let m = machine_with c.args.front.now c.args.future.now c.args.arch.now o c.args.slots.now in
    let before = c.prepare-next.new.slots in
    let told : i ≡ interrupted_by s m = c.is_interrupted-interrupted.ensures ∙ ap (λ b. b && is_enabled c.args.arch.now.trap) c.is_pending-pending.ensures in
    λ is. c.show.ensures is
    ∙ shown_same k c.args.arch.now c.args.future.now o (outstanding_of d o.entries o.owed) (struck c.turn_in-turn.result) (struck (turn_with k i fetch before)) before before
    c.requires.owing.lasts refl (ap (λ (t : Option Turn). struck t) (c.turn_in-turn.ensures.turn i c.enters-entered.ensures)) refl
    ∙ ap (λ (l : Slots). shown_with k c.args.arch.now c.args.future.now (outstanding_of d o.entries o.owed) (struck (turn_with k i fetch l)) l) (c.prepare-next.ensures.slots lines told)
    ∙ ap (λ b. shown_with k c.args.arch.now c.args.future.now (outstanding_of d o.entries o.owed) (struck (turn_with k b fetch (loaded_by s m))) (loaded_by s m)) told

pub take_interrupt-taken-requires : goal.take_interrupt-taken-requires
take_interrupt-taken-requires c = record {
  enabled = λ e.
      let d = c.args.design.now in
      let i = interrupted_at d.sheet.shape c.is_interrupted-interrupted.result c.prepare-next.new.slots (sym c.enters-entered.ensures ∙ e) in
      let on = second_holds c.is_pending-pending.result (is_enabled c.args.arch.now.trap) (sym c.is_interrupted-interrupted.ensures ∙ i) in
      subst (λ (s : Arch). is_enabled s.trap ≡ true) (sym c.write.ensures.arch) (enabled_after (view_extension d.extension) (option_copied c.paying-paying.result) (native_of (leaving None c.flush-left.new.slots)) c.args.arch.now on);
}

pub returns-clause-after : goal.returns-clause-after
returns-clause-after c =
    let d = c.args.design.now in
    let h = d.sheet.shape in
    let lines = option_copied c.args.lines in
    let k = setting d c.args.image.now c.args.waits.now lines in
    let m = machine_with c.args.front.now c.args.future.now c.args.arch.now c.args.owing.now c.args.slots.now in
    let before = c.prepare-next.new.slots in
    let i = c.is_interrupted-interrupted.result in
    let told : i ≡ interrupted_by k m = c.is_interrupted-interrupted.ensures ∙ ap (λ b. b && is_enabled c.args.arch.now.trap) c.is_pending-pending.ensures in
    let loaded : before ≡ loaded_by k m = c.prepare-next.ensures.slots lines told in
    let turn : c.turn_in-turn.result ≡ turn_by k m =
    c.turn_in-turn.ensures.turn i c.enters-entered.ensures
    ∙ ap (λ b. turn_with h b m.fetch before) told
    ∙ ap (λ (l : Slots). turn_with h (interrupted_by k m) m.fetch l) loaded
    in
    let entered : c.enters-entered.result ≡ entered_by k m =
    c.enters-entered.ensures ∙ ap (λ b. enters h b before) told ∙ ap (λ (l : Slots). enters h (interrupted_by k m) l) loaded
    in
    let seen : c.flush-left.new.slots ≡ seen_by k m =
    c.flush-left.ensures.slots ∙ ap (λ (t : Option Turn). cleared (struck t) before) turn ∙ ap (λ (l : Slots). cleared (struck (turn_by k m)) l) loaded
    in
    let fetch : c.next_fetch-fetch.result ≡ fetch_by k m =
    c.next_fetch-fetch.ensures
    ∙ ap (λ o. unless o (fetch_after m.fetch c.flush-left.new.slots)) (c.flush-left.ensures.redirect ∙ ap (λ (t : Option Turn). redirect_of t) turn)
    ∙ ap (λ (l : Slots). unless (redirect_of (turn_by k m)) (fetch_after m.fetch l)) seen
    in
    let place : c.from-memory.result ≡ h.mem = c.from-memory.ensures in
    let inside : c.from-memory.result < length c.flush-left.new.slots =
    let a = h.lawful.memory_inside in
    let long = c.prepare-next.ensures.stages in
    let e = c.flush-left.auto.slots in
    omega (arith, place, a, long, e)
    in
    let memory : c.index-slots-memory.result ≡ memory_by k m =
    slot_at c.flush-left.new.slots c.from-memory.result c.index-slots-memory.result inside c.index-slots-memory.is
    ∙ ap (λ n. first_slot (drop n c.flush-left.new.slots)) place
    ∙ ap (λ (l : Slots). first_slot (drop h.mem l)) seen
    in
    let again : c.index-slots-memory-2.result ≡ memory_by k m =
    slot_at c.flush-left.new.slots c.from-memory.result c.index-slots-memory-2.result inside c.index-slots-memory-2.is
    ∙ ap (λ n. first_slot (drop n c.flush-left.new.slots)) place
    ∙ ap (λ (l : Slots). first_slot (drop h.mem l)) seen
    in
    let accesses : c.accesses_then-accesses.result ≡ accesses_after m.accesses (memory_by k m) =
    c.accesses_then-accesses.ensures ∙ ap (λ (u : Option Token). accesses_after m.accesses u) (sym c.index-slots-memory.is ∙ memory)
    in
    let stood : c.stood_then-stood.result ≡ stood_after m.stood (memory_by k m) = c.stood_then-stood.ensures ∙ ap (λ (u : Option Token). stood_after m.stood u) (sym c.index-slots-memory-2.is ∙ again) in
    let waiting : c.is_waiting-waiting.result ≡ (pending_by k m && not (entered_by k m)) = search (rules, entered) in
    let future : c.write.new.future ≡ file_early (executed_by k m) (file_late (left_by k m) (file_paid (paid_by k m) m.future)) = search (rules, seen) in
    let written : c.write.new.arch ≡ written_by k m = search (rules, seen) in
    let taken : c.take_interrupt-taken.result ≡ taken_by k m = search (rules, entered, written) in
    let arch : c.take_interrupt-taken.new.arch ≡ after_entry h.trap (taken_by k m) (written_by k m) = search (rules, taken, written) in
    let owing : c.cycle.new.self ≡ outstanding_by k m = search (rules, seen) in
    let slots : c.advance.new.slots ≡ advanced None (seen_by k m) = search (rules, seen) in
    let rows : m.rows + 1 ≡ suc m.rows = omega arith in
    let next : c.prepare-next.result ≡ next_after m.next m.slots (new_by k m) = c.prepare-next.ensures.next lines in
    let made = λ (f n a s r : ℕ) (w : Bool) (file : List Bits) (arch : Arch) (o : Outstanding) (l : Slots).
    machine_with (record { fetch = f; next = n; accesses = a; stood = s; rows = r; waiting = w }) file arch o l
    in
    ap (λ f. made f c.prepare-next.result c.accesses_then-accesses.result c.stood_then-stood.result (m.rows + 1) c.is_waiting-waiting.result c.write.new.future c.take_interrupt-taken.new.arch c.cycle.new.self c.advance.new.slots) fetch
    ∙ ap (λ n. made (fetch_by k m) n c.accesses_then-accesses.result c.stood_then-stood.result (m.rows + 1) c.is_waiting-waiting.result c.write.new.future c.take_interrupt-taken.new.arch c.cycle.new.self c.advance.new.slots) next
    ∙ ap (λ a. made (fetch_by k m) (next_after m.next m.slots (new_by k m)) a c.stood_then-stood.result (m.rows + 1) c.is_waiting-waiting.result c.write.new.future c.take_interrupt-taken.new.arch c.cycle.new.self c.advance.new.slots) accesses
    ∙ ap (λ a. made (fetch_by k m) (next_after m.next m.slots (new_by k m)) (accesses_after m.accesses (memory_by k m)) a (m.rows + 1) c.is_waiting-waiting.result c.write.new.future c.take_interrupt-taken.new.arch c.cycle.new.self c.advance.new.slots) stood
    ∙ ap (λ r. made (fetch_by k m) (next_after m.next m.slots (new_by k m)) (accesses_after m.accesses (memory_by k m)) (stood_after m.stood (memory_by k m)) r c.is_waiting-waiting.result c.write.new.future c.take_interrupt-taken.new.arch c.cycle.new.self c.advance.new.slots) rows
    ∙ ap (λ w. made (fetch_by k m) (next_after m.next m.slots (new_by k m)) (accesses_after m.accesses (memory_by k m)) (stood_after m.stood (memory_by k m)) (suc m.rows) w c.write.new.future c.take_interrupt-taken.new.arch c.cycle.new.self c.advance.new.slots) waiting
    ∙ ap (λ (file : List Bits). record { slots = c.advance.new.slots; fetch = fetch_by k m; next = next_after m.next m.slots (new_by k m); accesses = accesses_after m.accesses (memory_by k m); stood = stood_after m.stood (memory_by k m); rows = suc m.rows; waiting = pending_by k m && not (entered_by k m); future = file; arch = c.take_interrupt-taken.new.arch; entries = c.cycle.new.self.entries; owed = c.cycle.new.self.owed }) future
    ∙ ap (λ (l : Slots). record { slots = l; fetch = fetch_by k m; next = next_after m.next m.slots (new_by k m); accesses = accesses_after m.accesses (memory_by k m); stood = stood_after m.stood (memory_by k m); rows = suc m.rows; waiting = pending_by k m && not (entered_by k m); future = (machine_after k m).future; arch = c.take_interrupt-taken.new.arch; entries = c.cycle.new.self.entries; owed = c.cycle.new.self.owed }) slots
    ∙ ap (λ (a : Arch). record { slots = (machine_after k m).slots; fetch = fetch_by k m; next = next_after m.next m.slots (new_by k m); accesses = accesses_after m.accesses (memory_by k m); stood = stood_after m.stood (memory_by k m); rows = suc m.rows; waiting = pending_by k m && not (entered_by k m); future = (machine_after k m).future; arch = a; entries = c.cycle.new.self.entries; owed = c.cycle.new.self.owed }) arch
    ∙ ap (λ (o : Outstanding). record { slots = (machine_after k m).slots; fetch = fetch_by k m; next = next_after m.next m.slots (new_by k m); accesses = accesses_after m.accesses (memory_by k m); stood = stood_after m.stood (memory_by k m); rows = suc m.rows; waiting = pending_by k m && not (entered_by k m); future = (machine_after k m).future; arch = (machine_after k m).arch; entries = o.entries; owed = o.owed }) owing
