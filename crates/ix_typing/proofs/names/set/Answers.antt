use Rattle.std.proofs.Common.{◌∙◌, ap, sym, Option}
use Rattle.std.proofs.lemmas.Map.Text.{btree_map_updates_text}
use Rattle.std.specs.BTreeMap.{get_by_text}
use Rattle.std.specs.Map.{update}
use Rattle.std.specs.Str.{bytes_eq}
use Rattle.ix_typing.specs.declared.role.Role.{Role}
use Rattle.ix_typing.proofs.names.set.Goals as goal

pub returns-in-None : goal.returns-in-None
returns-in-None c = λ some n.
    btree_map_updates_text c.args.name.now c.args.roles.now c.remove.new.self _ c.remove.ensures.updates n
    ∙ ap (λ (w : Option Role). update bytes_eq (get_by_text c.args.roles.now) c.args.name.now w n) (sym c.in-None.is)

pub returns-in-Some-get_mut : goal.returns-in-Some-get_mut
returns-in-Some-get_mut c = λ some n.
    btree_map_updates_text c.args.name.now c.args.roles.now (c.get_mut.follows.lender c.in-Some.role) _ ((c.get_mut.follows.holds c.in-Some.role).3 some) n
    ∙ ap (λ (w : Option Role). update bytes_eq (get_by_text c.args.roles.now) c.args.name.now w n) (sym c.in-Some.is)
