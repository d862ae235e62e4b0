use Rattle.std.proofs.Common.{◌≡◌, length, map}
use Rattle.ix_tree.specs.TypedView.{typed_decl}
use Rattle.rv_asm_text.specs.Indexing.{decls_index}
use Rattle.rv_asm_text.proofs.indexing.decls_index.Given as goal

abbrev pub invariant-loop-decl : goal.invariant-loop-decl
invariant-loop-decl l = decls_index l.field (map typed_decl l.left) ≡ decls_index l.field (map typed_decl l.decls)

abbrev pub decreases-loop-decl : goal.decreases-loop-decl
decreases-loop-decl l = length l.left
