use Rattle.std.proofs.Common.{rules}
use Rattle.ix_tree.specs.declared.stmt.StmtKind.TheViews.{the_lemmas}
use Rattle.ix_tree.proofs.Views.{row_views}
use Rattle.ix_unroll.proofs.parts.block.Goals as goal

pub returns : goal.returns
returns c = search (rules, the_lemmas, row_views)
