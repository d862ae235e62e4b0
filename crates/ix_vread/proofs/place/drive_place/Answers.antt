use Rattle.std.proofs.Common.{length, drop, ap, ◌∙◌}
use Rattle.ix_vnets.specs.Drives.{drives}
use Rattle.ix_vread.proofs.Spots.{place_found}
use Rattle.ix_vread.proofs.place.drive_place.Goals as goal

pub returns : goal.returns
returns c =
    place_found c.args.tokens.now c.in_ok-places.places.items c.behind_modules.result.now (length (drives c.args.modules.now)) c.args.drive c.place_at.result c.in_ok-places.ensures
    (c.behind_modules.ensures ∙ ap (drop (length (drives c.args.modules.now))) c.deref.ensures.value) c.place_at.ensures
