use Rattle.std.proofs.Common.{◌≡◌, ℕ, ◌<◌, [], false, get_or}
use Rattle.std.specs.Str.{bytes_eq}
use Rattle.ix_graph.specs.Kinds.{kind_words}
use Rattle.ix_graph.proofs.kind.kind_number.Given as goal

abbrev pub invariant-loop-number : goal.invariant-loop-number
invariant-loop-number l = (k : ℕ) → k < l.number → bytes_eq (get_or kind_words k []) l.text ≡ false
