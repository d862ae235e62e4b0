use Rattle.std.proofs.Common.{◌≡◌, ◌∙◌, ◌++◌, ap, sym, subst, length, List, arith}
use Rattle.std.specs.Prelude.{vec_capacity}
use Rattle.rv_unit.specs.Entries.{next_entries}
use Rattle.rv_unit.specs.Timed.{CanEnter}
use Rattle.rv_engine.specs.declared.owing.Owed.{Owed}
use Rattle.rv_engine.specs.Owing.{Outstanding, unpaid, unit_entered, owed_by_entering, entries_after, owed_after}
use Rattle.rv_engine.specs.Places.{IsPayingPlace}
use Rattle.rv_engine.specs.Rows.{going, entering_of}
use Rattle.rv_engine.proofs.Owings.{place_gone, kept_as, after_kept, after_room}
use Rattle.rv_engine.proofs.owing.Owing.cycle.Goals as goal

pub put_first-requires : goal.put_first-requires
put_first-requires c =
    let s = c.self.inside in
    let enter = entering_of (going c.args.slot.now) in
    let o : Outstanding = record { stages = s.units.stages; lasts = s.units.lasts; entries = s.units.entries; owed = s.owed.items } in
    let enters : CanEnter o.lasts o.entries (unit_entered enter) = subst (λ (v : Outstanding). CanEnter v.lasts v.entries (unit_entered enter)) (sym c.self.view_is) c.requires in
    let place : IsPayingPlace o.lasts o.entries c.place-place.result = subst (λ (v : Outstanding). IsPayingPlace v.lasts v.entries c.place-place.result) (sym c.self.view_is) c.place-place.ensures in
    let gone : c.take_at.new.owed.items ≡ unpaid o = c.take_at.ensures.items ∙ place_gone o.lasts o.entries o.owed c.place-place.result place c.self.invariant.each in
    let room = after_room c.unit_laws.ensures.timed c.unit_laws.ensures.room o enter (vec_capacity s.owed) c.self.invariant enters in
    let same = ap (λ (l : List Owed). length (owed_by_entering enter ++ l)) gone in
    let capacity = c.take_at.ensures.capacity in
    omega (arith, room, same, capacity)

pub invariant_of-self : goal.invariant_of-self
invariant_of-self c =
    let s = c.self.inside in
    let enter = entering_of (going c.args.slot.now) in
    let o : Outstanding = record { stages = s.units.stages; lasts = s.units.lasts; entries = s.units.entries; owed = s.owed.items } in
    let enters : CanEnter o.lasts o.entries (unit_entered enter) = subst (λ (v : Outstanding). CanEnter v.lasts v.entries (unit_entered enter)) (sym c.self.view_is) c.requires in
    let place : IsPayingPlace o.lasts o.entries c.place-place.result = subst (λ (v : Outstanding). IsPayingPlace v.lasts v.entries c.place-place.result) (sym c.self.view_is) c.place-place.ensures in
    let gone : c.take_at.new.owed.items ≡ unpaid o = c.take_at.ensures.items ∙ place_gone o.lasts o.entries o.owed c.place-place.result place c.self.invariant.each in
    let owed : c.put_first.new.owed.items ≡ owed_after o enter = c.put_first.ensures.items ∙ ap (λ (l : List Owed). owed_by_entering enter ++ l) gone in
    let entries : c.cycle.new.self.entries ≡ entries_after o enter = c.cycle.ensures.entries ∙ ap (λ e. next_entries o.stages o.lasts e o.entries) c.entered.ensures in
    let capacity = c.put_first.ensures.capacity ∙ c.take_at.ensures.capacity in
    kept_as c.cycle.new.self.stages o.stages c.cycle.new.self.lasts o.lasts c.cycle.new.self.entries (entries_after o enter) c.put_first.new.owed.items (owed_after o enter) (vec_capacity c.put_first.new.owed) (vec_capacity s.owed)
    c.cycle.ensures.stages c.cycle.ensures.lasts entries owed capacity
    (after_kept c.unit_laws.ensures.timed o enter (vec_capacity s.owed) c.self.invariant enters)
