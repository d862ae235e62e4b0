use Rattle.std.proofs.Common.{◌≡◌, length}
use Rattle.rv_asm.specs.ImageText.{without_last_blanks}
use Rattle.rv_asm.proofs.image_text.trim_end.Given as goal

abbrev pub invariant-loop-line : goal.invariant-loop-line
invariant-loop-line l = without_last_blanks l.line ≡ without_last_blanks l.fn.line

abbrev pub decreases-loop-line : goal.decreases-loop-line
decreases-loop-line l = length l.line
