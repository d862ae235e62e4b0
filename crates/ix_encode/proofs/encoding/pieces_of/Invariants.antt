use Rattle.std.proofs.Common.{◌≡◌, ◌≤◌, ◌++◌, drop}
use Rattle.ix_extension.specs.Encodings.{bits_of, pieces_of}
use Rattle.ix_encode.proofs.encoding.pieces_of.Given as goal

abbrev pub invariant-loop-piece : goal.invariant-loop-piece
invariant-loop-piece l =
    record {
      place : l.at ≡ bits_of (drop l.piece-index l.pieces);
      most : l.at ≤ 32;
      front : l.out ++ pieces_of (drop l.piece-index l.pieces) ≡ pieces_of l.pieces;
    }
