use Rattle.std.proofs.Common.{◌≡◌, ℕ, ◌<◌, ◌≤◌, ◌∙◌, All, length, sym, ap, subst, arith, [], None, false}
use Rattle.std.specs.Prelude.{◌↔◌, IfSome, vec_len}
use Rattle.rv_unit.specs.declared.entry.Entry.{Entry}
use Rattle.rv_unit.specs.Entries.{has_finished, written_entry, unit_and_serial, next_entries}
use Rattle.rv_unit.specs.Timed.{IsTimed, CanEnter, room}
use Rattle.rv_unit.specs.Surveys.{IsSurvey}
use Rattle.rv_unit.proofs.Moving.{timed_law}
use Rattle.ix_plan.specs.Units.{unit_written, next_units}
use Rattle.rv_unit.specs.Slots.{units_of}
use Rattle.rv_unit.proofs.Showing.{written_law, next_law, idle_written, idle_next}
use Rattle.rv_unit.proofs.Cycling.{next_below, written_below, written_none, nothing_in, nothing_enters}
use Rattle.rv_unit.proofs.units.Units.cycle.Goals as goal

pub survey_of-self-inside-requires-clause-below : goal.survey_of-self-inside-requires-clause-below
survey_of-self-inside-requires-clause-below c =
    let s = c.self.inside in
    let enters : CanEnter s.lasts.items s.entries.items c.args.enter = subst (λ v. CanEnter v.lasts v.entries c.args.enter) (sym c.self.view_is) c.requires in
    let next : c.one_row-written.new.entries.items ≡ next_entries s.stages s.lasts.items c.args.enter s.entries.items =
    subst (λ l. c.one_row-written.new.entries.items ≡ next_entries s.stages l c.args.enter s.entries.items) c.as_slice-lasts.ensures.value
    c.one_row-written.ensures.entries in
    subst (λ l. All (λ (e : Entry). e.unit < length l) c.as_slice-2.result.now) (sym c.as_slice.ensures.value)
    (subst (λ l. All (λ (e : Entry). e.unit < length s.lasts.items) l) (sym (c.as_slice-2.ensures.value ∙ next))
    (next_below s.stages s.lasts.items s.entries.items c.args.enter c.self.invariant.units c.self.invariant.timed enters))

pub invariant_of-self : goal.invariant_of-self
invariant_of-self c =
    let s = c.self.inside in
    let enters : CanEnter s.lasts.items s.entries.items c.args.enter = subst (λ v. CanEnter v.lasts v.entries c.args.enter) (sym c.self.view_is) c.requires in
    let next : c.one_row-written.new.entries.items ≡ next_entries s.stages s.lasts.items c.args.enter s.entries.items =
    subst (λ l. c.one_row-written.new.entries.items ≡ next_entries s.stages l c.args.enter s.entries.items) c.as_slice-lasts.ensures.value
    c.one_row-written.ensures.entries in
    record {
      units = c.self.invariant.units;
      timed = subst (λ l. IsTimed s.stages s.lasts.items l) (sym next)
          (timed_law s.stages s.lasts.items s.entries.items c.args.enter c.self.invariant.units c.self.invariant.timed enters);
      survey = subst (λ l. IsSurvey s.lasts.items l c.survey_of-self-inside.result) c.as_slice-2.ensures.value
          (subst (λ l. IsSurvey l c.as_slice-2.result.now c.survey_of-self-inside.result) c.as_slice.ensures.value c.survey_of-self-inside.ensures);
      capacity = subst (λ n. room s.stages s.lasts.items ≤ n) (sym c.one_row-written.ensures.capacity) c.self.invariant.capacity;
    }

pub returns-clause-below : goal.returns-clause-below
returns-clause-below c =
    let s = c.self.inside in
    let written : c.one_row-written.result ≡ unit_and_serial (written_entry s.lasts.items s.entries.items) =
    subst (λ l. c.one_row-written.result ≡ unit_and_serial (written_entry l s.entries.items)) c.as_slice-lasts.ensures.value c.one_row-written.ensures.written in
    subst (λ v. IfSome c.one_row-written.result (λ w. w.0 < length v.lasts)) c.self.view_is
    (subst (λ o. IfSome o (λ w. w.0 < length s.lasts.items)) (sym written) (written_below s.stages s.lasts.items s.entries.items c.self.invariant.timed))

pub returns-clause-none : goal.returns-clause-none
returns-clause-none c =
    let s = c.self.inside in
    let written : c.one_row-written.result ≡ unit_and_serial (written_entry s.lasts.items s.entries.items) =
    subst (λ l. c.one_row-written.result ≡ unit_and_serial (written_entry l s.entries.items)) c.as_slice-lasts.ensures.value c.one_row-written.ensures.written in
    subst (λ v. (c.one_row-written.result ≡ None) ↔ ((u : ℕ) → has_finished v.lasts u v.entries ≡ false)) c.self.view_is
    (subst (λ o. (o ≡ None) ↔ ((u : ℕ) → has_finished s.lasts.items u s.entries.items ≡ false)) (sym written) (written_none s.lasts.items s.entries.items))

pub returns-clause-rule_written : goal.returns-clause-rule_written
returns-clause-rule_written c =
    let s = c.self.inside in
    let written : c.one_row-written.result ≡ unit_and_serial (written_entry s.lasts.items s.entries.items) =
    subst (λ l. c.one_row-written.result ≡ unit_and_serial (written_entry l s.entries.items)) c.as_slice-lasts.ensures.value c.one_row-written.ensures.written in
    subst (λ v. unit_written (units_of v.stages v.lasts v.entries) ≡ c.one_row-written.result) c.self.view_is
    (written_law s.stages s.lasts.items s.entries.items c.self.invariant.units c.self.invariant.timed ∙ sym written)

pub returns-clause-rule_next : goal.returns-clause-rule_next
returns-clause-rule_next c =
    let s = c.self.inside in
    let enters : CanEnter s.lasts.items s.entries.items c.args.enter = subst (λ v. CanEnter v.lasts v.entries c.args.enter) (sym c.self.view_is) c.requires in
    let next : c.one_row-written.new.entries.items ≡ next_entries s.stages s.lasts.items c.args.enter s.entries.items =
    subst (λ l. c.one_row-written.new.entries.items ≡ next_entries s.stages l c.args.enter s.entries.items) c.as_slice-lasts.ensures.value
    c.one_row-written.ensures.entries in
    subst (λ v. next_units c.args.enter (units_of v.stages v.lasts v.entries) ≡ units_of s.stages s.lasts.items c.one_row-written.new.entries.items) c.self.view_is
    (next_law s.stages s.lasts.items s.entries.items c.args.enter c.self.invariant.units c.self.invariant.timed enters
    ∙ ap (λ l. units_of s.stages s.lasts.items l) (sym next))

pub returns-then-is_empty-clause-rule_written : goal.returns-then-is_empty-clause-rule_written
returns-then-is_empty-clause-rule_written c =
    let s = c.self.inside in
    let empty : s.entries.items ≡ [] = nothing_in s.entries.items (vec_len s.entries) (let ok = s.entries.ok in omega (arith, ok)) c.if-is_empty.ensures in
    subst (λ v. unit_written (units_of v.stages v.lasts v.entries) ≡ None) c.self.view_is
    (idle_written s.stages s.lasts.items s.entries.items c.self.invariant.units c.self.invariant.timed empty)

pub returns-then-is_empty-clause-rule_next : goal.returns-then-is_empty-clause-rule_next
returns-then-is_empty-clause-rule_next c =
    let s = c.self.inside in
    let enters : CanEnter s.lasts.items s.entries.items c.args.enter = subst (λ v. CanEnter v.lasts v.entries c.args.enter) (sym c.self.view_is) c.requires in
    let empty : s.entries.items ≡ [] = nothing_in s.entries.items (vec_len s.entries) (let ok = s.entries.ok in omega (arith, ok)) c.if-is_empty.ensures in
    subst (λ v. next_units c.args.enter (units_of v.stages v.lasts v.entries) ≡ units_of v.stages v.lasts v.entries) c.self.view_is
    (idle_next s.stages s.lasts.items s.entries.items c.args.enter c.self.invariant.units c.self.invariant.timed enters empty
    (nothing_enters c.args.enter c.if-is_none.ensures))
