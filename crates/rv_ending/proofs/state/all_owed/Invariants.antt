use Rattle.std.proofs.Common.{◌≡◌, ℕ, List, [], ◌++◌, take}
use Rattle.std.specs.List.{flat_map}
use Rattle.rv_ending.specs.Differing.{IsCompared, HasRoom}
use Rattle.rv_ending.specs.Owed.{owed_lines}
use Rattle.rv_ending.proofs.state.all_owed.Given as goal

abbrev pub invariant-loop-at : goal.invariant-loop-at
invariant-loop-at l = HasRoom l.text l.so_far × (l.out ≡ [])
    × ((first : ℕ) (told : List ℕ) → IsCompared first l.text told l.fn.compared → IsCompared first l.text (told ++ flat_map owed_lines (take l.at l.owed)) l.so_far)
