use Rattle.std.proofs.Common.{◌≡◌, drop}
use Rattle.ix_typing.specs.Texts.{pieces_fault}
use Rattle.ix_check_parts.proofs.pieces.pieces.Given as goal

abbrev pub invariant-loop-piece : goal.invariant-loop-piece
invariant-loop-piece l = pieces_fault l.names l.all ≡ pieces_fault l.names (drop l.piece-index l.all)
