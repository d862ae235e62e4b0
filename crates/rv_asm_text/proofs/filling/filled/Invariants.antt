use Rattle.std.proofs.Common.{◌≡◌, ◌≤◌, drop, length, map, Bor, List, ℕ}
use Rattle.rv_asm_text.specs.declared.verdict.Verdict.TheVariants.{Word}
use Rattle.rv_asm_text.specs.Filling.{filled}
use Rattle.rv_asm_text.proofs.filling.filled.Given as goal

abbrev pub invariant-loop-k : goal.invariant-loop-k
invariant-loop-k l = record {
  rest : filled l.pieces (Word l.matches) l.operands (map (λ (x : Bor (List ℕ)). x.now) l.texts)
      ≡ filled l.pieces l.verdict (drop l.k l.operands) (drop l.k (map (λ (x : Bor (List ℕ)). x.now) l.texts));
  within : l.k ≤ length l.texts;
}
