use Rattle.std.proofs.Common.{◌≡◌, ◌∙◌, ◌++◌, sym, reverse, ℕ}
use Rattle.rv_harts.specs.Events.{standing as standing_of}
use Rattle.rv_harts.specs.Turns.{board_of}
use Rattle.rv_holds.proofs.Least.{least_of_none}
use Rattle.rv_barrel.specs.Cells.{fetched_of}
use Rattle.rv_barrel.proofs.Turnings.{none_spawned}
use Rattle.rv_barrel.proofs.turning.least_outstanding.Goals as goal

pub returns-in-None : goal.returns-in-None
returns-in-None c k q all d asks asked owed =
    let unwritten = all ++ reverse (standing_of (fetched_of q c.args.older.now)) in
    sym (least_of_none (board_of k d unwritten) 0 48 (none_spawned k d unwritten (sym (c.eldest_unwritten.ensures k q all asked owed) ∙ c.in-None.is)))
