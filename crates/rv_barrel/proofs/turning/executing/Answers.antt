use Rattle.std.proofs.Common.{◌∙◌, ◌++◌, sym, reverse}
use Rattle.rv_harts.specs.Events.{standing as standing_of}
use Rattle.rv_barrel.specs.Cells.{fetched_of}
use Rattle.std.proofs.Common.{refl}
use Rattle.rv_harts.specs.Events.{undone}
use Rattle.rv_harts.specs.Turns.{unit_turn, drain_turn}
use Rattle.rv_barrel.specs.Older.{kept_of}
use Rattle.rv_barrel.proofs.Turnings.{executing_is, exec_late, exec_unit, exec_drain}
use Rattle.rv_barrel.proofs.turning.executing.Goals as goal

pub returns-in-Some-eldest_standing : goal.returns-in-Some-eldest_standing
returns-in-Some-eldest_standing c k q all d same asks tried asked owed =
    sym (exec_late (unit_turn k d (all ++ reverse (standing_of (fetched_of q c.args.older.now)))) (drain_turn k d (kept_of c.args.out all ++ reverse (undone k c.args.stage (fetched_of q c.args.older.now)))) c.in_default.is c.in-Some-eldest_standing.is)
    ∙ executing_is k d (reverse (standing_of (fetched_of q c.args.older.now))) (all ++ reverse (standing_of (fetched_of q c.args.older.now))) (kept_of c.args.out all ++ reverse (undone k c.args.stage (fetched_of q c.args.older.now))) c.least_wait.result c.eldest_standing.result (unit_turn k d (all ++ reverse (standing_of (fetched_of q c.args.older.now)))) (drain_turn k d (kept_of c.args.out all ++ reverse (undone k c.args.stage (fetched_of q c.args.older.now)))) (c.least_wait.ensures k q all d asks asked owed) (c.eldest_standing.ensures k q asked) refl refl

pub returns-in-Some-unit : goal.returns-in-Some-unit
returns-in-Some-unit c k q all d same asks tried asked owed =
    sym (exec_unit (drain_turn k d (kept_of c.args.out all ++ reverse (undone k c.args.stage (fetched_of q c.args.older.now)))) c.in_default.is c.in_default-eldest_standing.is c.in-Some-unit.is)
    ∙ executing_is k d (reverse (standing_of (fetched_of q c.args.older.now))) (all ++ reverse (standing_of (fetched_of q c.args.older.now))) (kept_of c.args.out all ++ reverse (undone k c.args.stage (fetched_of q c.args.older.now))) c.least_wait.result c.eldest_standing.result c.unit.result (drain_turn k d (kept_of c.args.out all ++ reverse (undone k c.args.stage (fetched_of q c.args.older.now)))) (c.least_wait.ensures k q all d asks asked owed) (c.eldest_standing.ensures k q asked) (c.unit.ensures k q all d asks asked owed) refl

pub returns : goal.returns
returns c k q all d same asks tried asked owed =
    sym (exec_drain c.drain.result c.in_default.is c.in_default-eldest_standing.is c.in_default-unit.is)
    ∙ executing_is k d (reverse (standing_of (fetched_of q c.args.older.now))) (all ++ reverse (standing_of (fetched_of q c.args.older.now))) (kept_of c.args.out all ++ reverse (undone k c.args.stage (fetched_of q c.args.older.now))) c.least_wait.result c.eldest_standing.result c.unit.result c.drain.result (c.least_wait.ensures k q all d asks asked owed) (c.eldest_standing.ensures k q asked) (c.unit.ensures k q all d asks asked owed) (c.drain.ensures k q all d same tried asked owed)
