use Rattle.std.proofs.Common.{◌∙◌, ◌++◌, sym, reverse}
use Rattle.rv_harts.specs.Events.{standing as standing_of}
use Rattle.rv_barrel.specs.Cells.{fetched_of}
use Rattle.rv_barrel.proofs.Turnings.{unit_is, unit_at}
use Rattle.rv_barrel.proofs.turning.unit.Goals as goal

pub returns-in-None-eldest_unwritten : goal.returns-in-None-eldest_unwritten
returns-in-None-eldest_unwritten c k q all d asks asked owed =
    sym (unit_at c.in-Some.number c.in-None-eldest_unwritten.is)
    ∙ unit_is k d c.args.asks.now (all ++ reverse (standing_of (fetched_of q c.args.older.now))) c.in-Some.number c.eldest_unwritten.result asks c.in-Some.is (c.eldest_unwritten.ensures k q all asked owed)

pub returns-in-Some-eldest_unwritten : goal.returns-in-Some-eldest_unwritten
returns-in-Some-eldest_unwritten c k q all d asks asked owed =
    sym (unit_at c.in-Some.number c.in-Some-eldest_unwritten.is)
    ∙ unit_is k d c.args.asks.now (all ++ reverse (standing_of (fetched_of q c.args.older.now))) c.in-Some.number c.eldest_unwritten.result asks c.in-Some.is (c.eldest_unwritten.ensures k q all asked owed)
