use Rattle.std.proofs.Common.{length}
use Rattle.rv_marks.proofs.moving.+moves_into.Given as goal

abbrev pub decreases-moves_into : goal.decreases-moves_into
decreases-moves_into l = length l.was.now
