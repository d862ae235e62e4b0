use Rattle.std.proofs.Common.{◌≡◌, ◌<◌, ◌-◌, length, vec_len}
use Rattle.ix_io.specs.Faults.{NoneFell}
use Rattle.ix_io.specs.Shelf.{told_file}
use Rattle.ix_io.proofs.Fronts.{IsFront}
use Rattle.ix_io.proofs.read.read_all.Given as goal

-- the bytes so far are a front of the told file
abbrev pub invariant-loop-piece : goal.invariant-loop-piece
invariant-loop-piece g l = record {
  kept : g.F.Shelf.files l.shelf ≡ g.F.Shelf.files l.initial.shelf;
  none_fell : NoneFell (g.F.Shelf.faults l.initial.shelf) (g.F.Shelf.faults l.shelf);
  room : 0 < length l.piece;
  front : IsFront (told_file (g.F.Shelf.files l.initial.shelf) l.name) l.bytes.items;
}

abbrev pub decreases-loop-piece : goal.decreases-loop-piece
decreases-loop-piece g l = 1048577 - vec_len l.bytes
