use Rattle.std.proofs.Common.{◌≡◌, length, map}
use Rattle.ix_tree.specs.TypedView.{typed_whole}
use Rattle.rv_asm_text.specs.Indexing.{body_indexes}
use Rattle.rv_asm_text.proofs.indexing.body_indexes.Given as goal

abbrev pub invariant-loop-stmt : goal.invariant-loop-stmt
invariant-loop-stmt l = body_indexes l.field (map typed_whole l.left) ≡ body_indexes l.field (map typed_whole l.body)

abbrev pub decreases-loop-stmt : goal.decreases-loop-stmt
decreases-loop-stmt l = length l.left
