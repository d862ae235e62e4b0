use Rattle.std.proofs.Common.{◌-◌, length, refl}
use Rattle.rv_engine.proofs.Owings.{some_there, oldest_at}
use Rattle.rv_engine.proofs.owing.last_serial.Goals as goal

pub returns-else-is_empty : goal.returns-else-is_empty
returns-else-is_empty c =
    oldest_at c.args.owed.now (length c.args.owed.now - 1) c.index-owed-owed.result refl (some_there c.args.owed.now c.if-is_empty.ensures)
