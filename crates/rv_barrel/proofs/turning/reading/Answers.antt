use Rattle.std.proofs.Common.{◌∙◌, ◌++◌, sym, ap, reverse}
use Rattle.rv_harts.specs.Events.{standing as standing_of}
use Rattle.rv_barrel.specs.Cells.{fetched_of}
use Rattle.rv_harts.specs.declared.row.Turn.TheVariants.{Board}
use Rattle.std.specs.Prelude.{Some}
use Rattle.rv_barrel.proofs.Turnings.{reading_is, both_read as ap2'}
use Rattle.rv_barrel.proofs.turning.reading.Goals as goal

pub returns-in-Some-least_outstanding : goal.returns-in-Some-least_outstanding
returns-in-Some-least_outstanding c k q all d asks asked owed =
    ap (λ t. Some (Board t c.in-Some-least_outstanding.serial)) c.register_at.ensures
    ∙ sym (ap2' c.in_default.is c.in-Some-least_outstanding.is)
    ∙ reading_is k d (reverse (standing_of (fetched_of q c.args.older.now))) (all ++ reverse (standing_of (fetched_of q c.args.older.now))) c.least_operand.result c.least_outstanding.result (c.least_operand.ensures k q all d asks asked owed) (c.least_outstanding.ensures k q all d asks asked owed)

pub returns : goal.returns
returns c k q all d asks asked owed =
    sym (ap2' c.in_default.is c.in_default-least_outstanding.is)
    ∙ reading_is k d (reverse (standing_of (fetched_of q c.args.older.now))) (all ++ reverse (standing_of (fetched_of q c.args.older.now))) c.least_operand.result c.least_outstanding.result (c.least_operand.ensures k q all d asks asked owed) (c.least_outstanding.ensures k q all d asks asked owed)
