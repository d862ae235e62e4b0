use Rattle.std.proofs.Common.{◌≡◌, drop}
use Rattle.ix_tree.specs.TypedView.{typed_items}
use Rattle.rv_asm_text.specs.Indexing.{row_indexes}
use Rattle.rv_asm_text.proofs.indexing.+statements.Given as goal

abbrev pub invariant-row_indexes-loop-stmt : goal.invariant-row_indexes-loop-stmt
invariant-row_indexes-loop-stmt l = row_indexes l.field (typed_items l.all) ≡ row_indexes l.field (typed_items (drop l.stmt-index l.all))
