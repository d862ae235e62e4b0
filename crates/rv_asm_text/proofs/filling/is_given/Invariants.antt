use Rattle.std.proofs.Common.{◌≡◌, length}
use Rattle.rv_asm_text.specs.Filling.{given_from}
use Rattle.rv_asm_text.proofs.filling.is_given.Given as goal

abbrev pub invariant-loop-piece : goal.invariant-loop-piece
invariant-loop-piece l = given_from l.field l.value l.given l.left ≡ given_from l.field l.value 0 l.pieces

abbrev pub decreases-loop-piece : goal.decreases-loop-piece
decreases-loop-piece l = length l.left
