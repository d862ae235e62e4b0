use Rattle.std.proofs.Common.{◌≡◌, ◌∙◌, sym, ap, subst, arith}
use Rattle.rv_unit.specs.Numbering.{lasts_of}
use Rattle.rv_unit.specs.Timed.{AreUnits, IsTimed, room}
use Rattle.rv_unit.specs.Surveys.{IsSurvey}
use Rattle.rv_unit.proofs.units.Units.new.Goals as goal

pub invariant_of-result : goal.invariant_of-result
invariant_of-result c =
    let stages = c.args.design.now.sheet.shape.stages in
    let lasts = c.in_ok-lasts.lasts.items in
    let plans = c.as_slice.ensures in
    let same : lasts ≡ lasts_of c.args.design.now.plans = c.in_ok-lasts.ensures ∙ ap lasts_of plans in
    let places = c.places_of-places.ensures ∙ ap (λ l. room stages l) c.as_slice-2.ensures.value in
    record {
      units = subst (λ l. AreUnits stages l) (sym same) c.requires;
      timed = subst (λ l. IsTimed stages lasts l) (sym c.in-Ok.ensures.items) tt;
      survey = subst (λ l. IsSurvey lasts l c.nothing.result) (sym c.in-Ok.ensures.items) (c.nothing.ensures lasts);
      capacity = omega (arith, places, c.in-Ok.ensures.capacity);
    }
