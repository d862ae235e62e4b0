use Rattle.std.proofs.Common.{◌≡◌, map}
use Rattle.ix_tree.specs.TypedView.{typed_block}
use Rattle.ix_extension.specs.Extensions.{view_behaviour, block_of}
use Rattle.ix_encode.proofs.instruction.blocks.Given as goal

abbrev pub invariant-loop-text : goal.invariant-loop-text
invariant-loop-text l = map view_behaviour l.out ≡ map block_of (map typed_block l.yielded)
