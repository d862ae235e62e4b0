use Rattle.std.proofs.Common.{◌∙◌, ap}
use Rattle.std.specs.Prelude.{reverse}
use Rattle.rv_harts.specs.Events.{standing}
use Rattle.rv_harts.specs.Turns.{eldest}
use Rattle.rv_barrel.specs.Cells.{fetched_of}
use Rattle.rv_barrel.specs.Older.{asked_so}
use Rattle.rv_barrel.proofs.Olders.{kept_all, found_owed, found_among}
use Rattle.rv_barrel.proofs.older.eldest_unwritten.Goals as goal

pub returns-in-None : goal.returns-in-None
returns-in-None c k q all asked owed =
    let f = asked_so k c.args.wanted in
    found_owed f all (reverse (standing (fetched_of q c.args.standing.now))) c.eldest_owed.result c.eldest_standing.result (c.eldest_owed.ensures k all owed ∙ ap (eldest f) (kept_all all)) c.in-None.is (c.eldest_standing.ensures k q asked)

pub returns-in_default : goal.returns-in_default
returns-in_default c k q all asked owed =
    let f = asked_so k c.args.wanted in
    found_among f all (reverse (standing (fetched_of q c.args.standing.now))) c.eldest_owed.result (c.eldest_owed.ensures k all owed ∙ ap (eldest f) (kept_all all)) c.in_default.not-None
