use Rattle.std.proofs.Common.{◌≡◌, ◌∙◌, sym, ap, subst, Option, None, ℕ, List}
use Rattle.rv_unit.specs.declared.entry.Entry.{Entry}
use Rattle.rv_engine.specs.Owing.{Outstanding}
use Rattle.rv_engine.specs.Places.{IsPayingPlace, oldest_place}
use Rattle.rv_engine.proofs.Owings.{paying_place, no_place}
use Rattle.rv_engine.proofs.owing.Owing.place.Goals as goal

pub returns-in-None : goal.returns-in-None
returns-in-None c =
    let s = c.self.inside in
    subst (λ (v : Outstanding). IsPayingPlace v.lasts v.entries None) c.self.view_is
    (no_place s.units.lasts s.units.entries (sym c.granted.ensures.unit ∙ c.in-None.is))

pub returns-in-Some : goal.returns-in-Some
returns-in-Some c =
    let s = c.self.inside in
    let place : c.oldest_in.result ≡ oldest_place c.in-Some.unit s.units.entries = c.oldest_in.ensures.place ∙ ap (λ (l : List Entry). oldest_place c.in-Some.unit l) c.entries.ensures.entries in
    subst (λ (v : Outstanding). IsPayingPlace v.lasts v.entries c.oldest_in.result) c.self.view_is
    (subst (λ (o : Option ℕ). IsPayingPlace s.units.lasts s.units.entries o) (sym place)
    (paying_place s.units.stages s.units.lasts s.units.entries c.in-Some.unit c.self.invariant.timed (sym c.granted.ensures.unit ∙ c.in-Some.is)))
