use Rattle.std.proofs.Common.{◌≡◌, ◌++◌, length, map, drop}
use Rattle.ix_tree.specs.View.{view_block}
use Rattle.ix_tree.specs.Unrolling.{alone_block, met_blocks}
use Rattle.ix_unroll.proofs.Going.{Going}
use Rattle.ix_unroll.proofs.text.unrolled_blocks.Given as goal

abbrev pub invariant-loop-block : goal.invariant-loop-block
invariant-loop-block l =
    let rest = drop (length l.yielded) l.fn.all in
    record {
      tree : map view_block l.out.items ++ map (λ x. alone_block (view_block x)) rest ≡ map (λ x. alone_block (view_block x)) l.fn.all;
      marks : Going l.fn.room.statements (met_blocks (map view_block l.fn.all)) (met_blocks (map view_block rest)) l.room.statements;
    }
