use Rattle.std.proofs.Common.{◌∙◌, ap, sym, Option}
use Rattle.std.proofs.lemmas.Map.Text.{btree_map_updates_text}
use Rattle.std.specs.BTreeMap.{get_by_text}
use Rattle.std.specs.Map.{update}
use Rattle.std.specs.Str.{bytes_eq}
use Rattle.ix_slots.specs.declared.locals.Place.{Place}
use Rattle.ix_slots.proofs.locals.set.Goals as goal

pub returns-in-None : goal.returns-in-None
returns-in-None c = λ some n.
    btree_map_updates_text c.args.name.now c.args.places.now c.remove.new.self _ c.remove.ensures.updates n
    ∙ ap (λ (w : Option Place). update bytes_eq (get_by_text c.args.places.now) c.args.name.now w n) (sym c.in-None.is)

pub returns-in-Some-get_mut : goal.returns-in-Some-get_mut
returns-in-Some-get_mut c = λ some n.
    btree_map_updates_text c.args.name.now c.args.places.now (c.get_mut.follows.lender c.in-Some.place) _ ((c.get_mut.follows.holds c.in-Some.place).3 some) n
    ∙ ap (λ (w : Option Place). update bytes_eq (get_by_text c.args.places.now) c.args.name.now w n) (sym c.in-Some.is)
