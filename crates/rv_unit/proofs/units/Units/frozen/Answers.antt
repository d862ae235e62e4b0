use Rattle.std.proofs.Common.{◌≡◌, ◌<◌, ◌∙◌, length, sym, subst, Some, arith}
use Rattle.std.specs.Prelude.{slice_get}
use Rattle.ix_plan.specs.Units.{Slots, unit_written, frozen_with}
use Rattle.rv_unit.specs.Slots.{units_of}
use Rattle.rv_unit.proofs.Surveying.{frozen_found}
use Rattle.rv_unit.proofs.Showing.{frozen_law}
use Rattle.rv_unit.proofs.units.Units.frozen.Goals as goal

pub returns-clause-rule : goal.returns-clause-rule
returns-clause-rule c =
    let s = c.self.inside in
    let below : c.args.unit < length s.lasts.items = subst (λ v. c.args.unit < length v.lasts) (sym c.self.view_is) c.requires in
    let few = c.self.invariant.units.few in
    let found = c.is_frozen.ensures ∙ frozen_found s.lasts.items s.entries.items s.survey c.args.unit c.self.invariant.survey (omega (arith, below, few)) in
    subst (λ v. (slots : Slots) → slice_get (units_of v.stages v.lasts v.entries) c.args.unit ≡ Some slots →
    frozen_with c.args.unit slots (unit_written (units_of v.stages v.lasts v.entries)) ≡ c.is_frozen.result) c.self.view_is
    (λ slots h. frozen_law s.stages s.lasts.items s.entries.items c.args.unit slots c.self.invariant.units c.self.invariant.timed h ∙ sym found)
