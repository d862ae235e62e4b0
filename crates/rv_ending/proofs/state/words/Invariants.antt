use Rattle.std.proofs.Common.{◌≡◌, ℕ, List, [], ◌++◌}
use Rattle.rv_text.specs.RunText.{memory_lines}
use Rattle.rv_ending.specs.Differing.{IsCompared, HasRoom}
use Rattle.rv_ending.proofs.state.words.Given as goal

abbrev pub invariant-loop-word : goal.invariant-loop-word
invariant-loop-word l = HasRoom l.text l.so_far × (l.out ≡ [])
    × ((first : ℕ) (told : List ℕ) → IsCompared first l.text told l.fn.compared → IsCompared first l.text (told ++ memory_lines l.memory l.word 0) l.so_far)
