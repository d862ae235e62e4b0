use Rattle.std.proofs.Common.{◌≤◌, length, drop}
use Rattle.rv_asm_text.proofs.Customs.{FormsFrom}
use Rattle.rv_asm_text.proofs.custom.custom_forms.Given as goal

abbrev pub invariant-loop-place : goal.invariant-loop-place
invariant-loop-place l = record {
  within : l.place ≤ length l.instructions;
  forms : FormsFrom l.place (drop l.place l.instructions) l.forms;
}

abbrev pub decreases-loop-place : goal.decreases-loop-place
decreases-loop-place l = l.place
