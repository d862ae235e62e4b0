use Rattle.std.specs.Prelude.{reverse}
use Rattle.rv_harts.specs.Events.{undone}
use Rattle.rv_barrel.specs.Cells.{fetched_of}
use Rattle.rv_barrel.specs.Older.{any_one, kept_of}
use Rattle.rv_barrel.proofs.Olders.{found_owed, found_among}
use Rattle.rv_barrel.proofs.older.eldest_left.Goals as goal

pub returns-in-None : goal.returns-in-None
returns-in-None c k q all same asked owed =
    found_owed any_one (kept_of c.args.out all) (reverse (undone k c.args.stage (fetched_of q c.args.standing.now))) c.eldest_owed.result c.eldest_undone.result (c.eldest_owed.ensures k all owed) c.in-None.is (c.eldest_undone.ensures k q same asked)

pub returns-in_default : goal.returns-in_default
returns-in_default c k q all same asked owed =
    found_among any_one (kept_of c.args.out all) (reverse (undone k c.args.stage (fetched_of q c.args.standing.now))) c.eldest_owed.result (c.eldest_owed.ensures k all owed) c.in_default.not-None
