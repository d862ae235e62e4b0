use Rattle.std.proofs.Common.{length}
use Rattle.rv_holds.proofs.deciding.+entering_serial.Given as goal

abbrev pub decreases-entering_serial : goal.decreases-entering_serial
decreases-entering_serial l = length l.older.now
