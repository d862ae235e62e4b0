use Rattle.std.proofs.Common.{◌++◌, suc, reverse}
use Rattle.rv_harts.specs.Events.{standing as standing_of}
use Rattle.rv_barrel.specs.Cells.{fetched_of}
use Rattle.std.specs.Prelude.{None, if◌then◌else◌, ◌==◌}
use Rattle.rv_harts.specs.Events.{undone}
use Rattle.rv_harts.specs.Turns.{reading_turn, executing_turn}
use Rattle.rv_barrel.specs.Older.{kept_of}
use Rattle.rv_barrel.proofs.Turnings.{turn_first, turn_second}
use Rattle.rv_barrel.proofs.turning.turn_of.Goals as goal

pub returns-in-None : goal.returns-in-None
returns-in-None c k q all d core asks tried asked owed =
    turn_second c.reading_in.result c.executing_in.result (if c.args.stage == k.shape.rd then reading_turn k d (reverse (standing_of (fetched_of q c.args.older.now))) (all ++ reverse (standing_of (fetched_of q c.args.older.now))) else None) (if c.args.stage == k.shape.ex then executing_turn k d (reverse (standing_of (fetched_of q c.args.older.now))) (all ++ reverse (standing_of (fetched_of q c.args.older.now))) (kept_of c.args.out all ++ reverse (undone k (suc c.args.stage) (fetched_of q c.args.older.now))) else None) (c.reading_in.ensures k q all d core asks asked owed) c.in-None.is (c.executing_in.ensures k q all d core asks tried asked owed)

pub returns-in_default : goal.returns-in_default
returns-in_default c k q all d core asks tried asked owed =
    turn_first c.reading_in.result (if c.args.stage == k.shape.rd then reading_turn k d (reverse (standing_of (fetched_of q c.args.older.now))) (all ++ reverse (standing_of (fetched_of q c.args.older.now))) else None) (if c.args.stage == k.shape.ex then executing_turn k d (reverse (standing_of (fetched_of q c.args.older.now))) (all ++ reverse (standing_of (fetched_of q c.args.older.now))) (kept_of c.args.out all ++ reverse (undone k (suc c.args.stage) (fetched_of q c.args.older.now))) else None) (c.reading_in.ensures k q all d core asks asked owed) c.in_default.not-None
