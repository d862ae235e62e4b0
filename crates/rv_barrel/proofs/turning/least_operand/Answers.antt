use Rattle.std.proofs.Common.{◌≡◌, ◌∙◌, sym, ap, reverse, ℕ}
use Rattle.rv_asks.specs.declared.asks.Asks.{Asks}
use Rattle.rv_harts.specs.Events.{standing as standing_of}
use Rattle.rv_harts.specs.Turns.{eldest, operand_of}
use Rattle.rv_holds.proofs.Least.{least_of_none}
use Rattle.rv_barrel.specs.declared.older.Wanted.TheVariants.{Either}
use Rattle.rv_barrel.specs.Cells.{fetched_of}
use Rattle.rv_barrel.specs.Older.{asked_so}
use Rattle.rv_barrel.proofs.Turnings.{none_written}
use Rattle.rv_barrel.proofs.turning.least_operand.Goals as goal

pub returns-in-None : goal.returns-in-None
returns-in-None c k q all d asks asked owed =
    let unretired = reverse (standing_of (fetched_of q c.args.older.now)) in
    sym (least_of_none (operand_of k d unretired) 0 32 (none_written k d unretired
    (ap (λ (a : Asks). eldest (asked_so k (Either a.first a.second)) unretired) (sym asks) ∙ sym (c.eldest_standing.ensures k q asked) ∙ c.in-None.is)))
