use Rattle.std.proofs.Common.{◌≡◌, length}
use Rattle.rv_asm_text.specs.Filling.{placed_from}
use Rattle.rv_asm_text.proofs.filling.placed.Given as goal

abbrev pub invariant-loop-piece : goal.invariant-loop-piece
invariant-loop-piece l = placed_from l.field l.value l.word l.left ≡ placed_from l.field l.value 0 l.pieces

abbrev pub decreases-loop-piece : goal.decreases-loop-piece
decreases-loop-piece l = length l.left
