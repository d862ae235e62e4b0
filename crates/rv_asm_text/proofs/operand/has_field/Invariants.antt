use Rattle.std.proofs.Common.{◌≡◌, length}
use Rattle.rv_asm_text.specs.Operands.{has_field}
use Rattle.rv_asm_text.proofs.operand.has_field.Given as goal

abbrev pub invariant-loop-piece : goal.invariant-loop-piece
invariant-loop-piece l = has_field l.field l.left ≡ has_field l.field l.pieces

abbrev pub decreases-loop-piece : goal.decreases-loop-piece
decreases-loop-piece l = length l.left
