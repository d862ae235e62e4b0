use Rattle.std.proofs.Common.{◌≡◌, ℕ, List, [], ◌++◌}
use Rattle.rv_ending.specs.Differing.{IsCompared, HasRoom}
use Rattle.rv_ending.specs.Owed.{customs_from}
use Rattle.rv_ending.proofs.state.customs.Given as goal

abbrev pub invariant-loop-number : goal.invariant-loop-number
invariant-loop-number l = HasRoom l.text l.so_far × (l.out ≡ [])
    × ((first : ℕ) (told : List ℕ) → IsCompared first l.text told l.fn.compared → IsCompared first l.text (told ++ customs_from l.one 0 l.number) l.so_far)
