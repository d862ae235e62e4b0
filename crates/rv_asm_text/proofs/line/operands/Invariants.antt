use Rattle.std.proofs.Common.{◌≡◌, ◌++◌, ℕ, List, Bor, drop, map}
use Rattle.rv_asm_text.specs.Lines.{trimmed}
use Rattle.rv_asm_text.proofs.line.operands.Given as goal

abbrev pub invariant-loop-part : goal.invariant-loop-part
invariant-loop-part l =
    map (λ (x : Bor (List ℕ)). x.now) l.operands.items ++ map (λ (x : Bor (List ℕ)). trimmed x.now) (drop l.part-index l.part-items)
    ≡ map (λ (x : Bor (List ℕ)). trimmed x.now) l.part-items
