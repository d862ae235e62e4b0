use Rattle.std.proofs.Common.{◌≡◌, ℕ, List, Bor, map, drop, length}
use Rattle.ix_extension.specs.Extensions.{view_instruction}
use Rattle.rv_asm.specs.Labels.{found}
use Rattle.rv_asm.specs.Sources.{assembled_from, prepended}
use Rattle.rv_asm.proofs.source.assemble_lines.Given as goal

abbrev pub invariant-loop-i : goal.invariant-loop-i
invariant-loop-i l = record {
  rest : prepended l.image (assembled_from (map view_instruction l.instructions) (found l.labels) l.i (length l.image) (drop l.i (map (λ (x : Bor (List ℕ)). x.now) l.lines)))
      ≡ assembled_from (map view_instruction l.instructions) (found l.labels) 0 0 (map (λ (x : Bor (List ℕ)). x.now) l.lines);
}
