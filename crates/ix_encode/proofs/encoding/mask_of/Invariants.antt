use Rattle.std.proofs.Common.{◌≡◌, ◌≤◌, ◌+◌, drop}
use Rattle.ix_extension.specs.Encodings.{bits_of, mask_of}
use Rattle.ix_encode.proofs.encoding.mask_of.Given as goal

abbrev pub invariant-loop-piece : goal.invariant-loop-piece
invariant-loop-piece l =
    record {
      place : l.at ≡ bits_of (drop l.piece-index l.pieces);
      most : l.at ≤ 32;
      sum : l.mask + mask_of (drop l.piece-index l.pieces) ≡ mask_of l.pieces;
    }
