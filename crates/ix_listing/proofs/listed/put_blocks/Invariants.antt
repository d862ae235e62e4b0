use Rattle.std.proofs.Common.{◌≡◌, ◌++◌, take}
use Rattle.std.specs.Prelude.{string_bytes}
use Rattle.std.specs.List.{flat_map}
use Rattle.ix_extension.specs.Extensions.{view_behaviour}
use Rattle.ix_listing.specs.Listing.{block_line}
use Rattle.ix_listing.proofs.listed.put_blocks.Given as goal

abbrev pub invariant-loop-block : goal.invariant-loop-block
invariant-loop-block l = record { so_far : string_bytes l.out ≡ string_bytes l.initial.out ++ flat_map (λ b. block_line (view_behaviour b)) (take l.block-index l.blocks) }
