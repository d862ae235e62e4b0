use Rattle.std.proofs.Common.{◌≡◌, ◌∙◌, ℕ, ◌<◌, length, sym, ap, subst, None, false}
use Rattle.std.specs.Prelude.{◌↔◌, IfSome}
use Rattle.rv_unit.specs.Entries.{has_finished}
use Rattle.ix_plan.specs.Units.{unit_written}
use Rattle.rv_unit.specs.Slots.{unit_named, units_of}
use Rattle.rv_unit.proofs.Showing.{shows_writer}
use Rattle.rv_unit.proofs.Cycling.{writer_below, writer_none}
use Rattle.rv_unit.proofs.units.Units.granted.Goals as goal

pub returns-clause-below : goal.returns-clause-below
returns-clause-below c =
    let s = c.self.inside in
    let below = writer_below s.stages s.lasts.items s.entries.items c.self.invariant.timed in
    subst (λ v. IfSome s.survey.granted (λ u. u < length v.lasts)) c.self.view_is
    (subst (λ o. IfSome o (λ u. u < length s.lasts.items)) (sym c.self.invariant.survey.granted) below)

pub returns-clause-none : goal.returns-clause-none
returns-clause-none c =
    let s = c.self.inside in
    subst (λ v. (s.survey.granted ≡ None) ↔ ((u : ℕ) → has_finished v.lasts u v.entries ≡ false)) c.self.view_is
    (subst (λ o. (o ≡ None) ↔ ((u : ℕ) → has_finished s.lasts.items u s.entries.items ≡ false)) (sym c.self.invariant.survey.granted)
    (writer_none s.lasts.items s.entries.items))

pub returns-clause-rule : goal.returns-clause-rule
returns-clause-rule c =
    let s = c.self.inside in
    c.self.invariant.survey.granted ∙ shows_writer s.stages s.lasts.items s.entries.items c.self.invariant.units c.self.invariant.timed
    ∙ ap (λ v. unit_named (unit_written (units_of v.stages v.lasts v.entries))) c.self.view_is
