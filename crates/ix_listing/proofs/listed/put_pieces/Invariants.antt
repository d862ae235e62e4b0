use Rattle.std.proofs.Common.{◌≡◌, ◌++◌, take}
use Rattle.std.specs.Prelude.{string_bytes}
use Rattle.std.specs.List.{flat_map}
use Rattle.ix_listing.specs.Listing.{piece_line}
use Rattle.ix_listing.proofs.listed.put_pieces.Given as goal

abbrev pub invariant-loop-piece : goal.invariant-loop-piece
invariant-loop-piece l = record { so_far : string_bytes l.out ≡ string_bytes l.initial.out ++ flat_map piece_line (take l.piece-index l.pieces) }
