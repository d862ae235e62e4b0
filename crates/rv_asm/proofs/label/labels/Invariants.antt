use Rattle.std.proofs.Common.{◌≡◌, ◌≤◌, ℕ, List, Bor, map, drop}
use Rattle.rv_asm.specs.Labels.{found, kept, place_from, place_of}
use Rattle.rv_asm.proofs.label.labels.Given as goal

abbrev pub invariant-loop-i : goal.invariant-loop-i
invariant-loop-i l = record {
  first : (name : List ℕ) → kept (found l.labels name) (place_from l.i l.word name (drop l.i (map (λ (x : Bor (List ℕ)). x.now) l.lines)))
      ≡ place_of (map (λ (x : Bor (List ℕ)). x.now) l.lines) name;
  few : l.word ≤ l.i;
}
