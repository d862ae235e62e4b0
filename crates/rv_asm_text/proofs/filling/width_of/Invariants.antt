use Rattle.std.proofs.Common.{◌≡◌, length}
use Rattle.rv_asm_text.specs.Filling.{width_from}
use Rattle.rv_asm_text.proofs.filling.width_of.Given as goal

abbrev pub invariant-loop-piece : goal.invariant-loop-piece
invariant-loop-piece l = width_from l.field l.width l.left ≡ width_from l.field 0 l.pieces

abbrev pub decreases-loop-piece : goal.decreases-loop-piece
decreases-loop-piece l = length l.left
