use Rattle.std.proofs.Common.{◌≡◌, ◌≤◌, ◌+◌, ◌*◌, drop}
use Rattle.ix_extension.specs.Encodings.{bits_of}
use Rattle.ix_encode.proofs.encoding.bits_of.Given as goal

abbrev pub invariant-loop-piece : goal.invariant-loop-piece
invariant-loop-piece l =
    record {
      sum : l.bits + bits_of (drop l.piece-index l.pieces) ≡ bits_of l.pieces;
      few : l.bits ≤ 128 * l.piece-index;
    }
