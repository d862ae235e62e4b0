use Rattle.std.proofs.Common.{ap}
use Rattle.ix_tree.specs.declared.token.Span.{Span}
use Rattle.ix_tree.specs.Trees.{StmtTree}
use Rattle.ix_tree.specs.Productions.{Done}
use Rattle.ix_parse_state.proofs.Blocks.{block_rows}
use Rattle.ix_parse_state.proofs.block.block.Goals as goal

pub returns : goal.returns
returns c =
    let s : Span = record { from = c.args.first.now.span.from; to = c.args.last.now.span.to } in
    ap (λ (x : StmtTree). let d : Done = record { from = s.from; to = s.to; stmt = x } in d) (block_rows s c.args.all)
