use Rattle.std.proofs.Common.{◌≡◌, ℕ, ◌<◌, List, false, Some}
use Rattle.std.specs.Prelude.{slice_get}
use Rattle.ix_tree.specs.Lexing.{same_bytes}
use Rattle.rv_asm_text.specs.Names.{register_names}
use Rattle.rv_asm_text.proofs.names.register_place.Given as goal

abbrev pub invariant-loop-n : goal.invariant-loop-n
invariant-loop-n l = (k : ℕ) (w : List ℕ) → k < l.n → slice_get register_names k ≡ Some w → same_bytes w l.word ≡ false
