use Rattle.std.proofs.Common.{ℕ, List, ◌++◌, take}
use Rattle.rv_ending.specs.Differing.{IsCompared, HasRoom}
use Rattle.rv_ending.proofs.compare.Compared.with.Given as goal

abbrev pub invariant-loop-byte : goal.invariant-loop-byte
invariant-loop-byte l = HasRoom l.text l.compared × ((first : ℕ) (so_far : List ℕ) → IsCompared first l.text so_far l.fn.self → IsCompared first l.text (so_far ++ take l.byte-index l.piece) l.compared)
