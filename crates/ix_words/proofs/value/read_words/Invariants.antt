use Rattle.std.proofs.Common.{◌≡◌, ℕ, List, ◌++◌, drop, map, true}
use Rattle.ix_io.specs.Faults.{NoneFell}
use Rattle.ix_words.specs.declared.status.Status.{Status}
use Rattle.ix_words.specs.Readings.{Reading, reading_of}
use Rattle.ix_words.specs.CommandLine.{fits_slots, bytes_of}
use Rattle.ix_words.specs.WordsRead.{AreRead, IsFirstRefused, RoseIn}
use Rattle.ix_words.proofs.value.read_words.Given as goal

-- what the rest of the words come to is what all come to
abbrev pub invariant-loop-at : goal.invariant-loop-at
invariant-loop-at g l = record {
  fits : fits_slots (drop l.at l.slots) (drop l.at (bytes_of l.words)) ≡ true;
  kept : g.F.Shelf.files l.shelf ≡ g.F.Shelf.files l.fn.shelf;
  none_fell : NoneFell (g.F.Shelf.faults l.fn.shelf) (g.F.Shelf.faults l.shelf);
  read : (vs : List Reading) → AreRead (g.F.Shelf.files l.fn.shelf) (drop l.at l.slots) (drop l.at (bytes_of l.words)) vs → AreRead (g.F.Shelf.files l.fn.shelf) l.slots (bytes_of l.words) (map reading_of l.values.items ++ vs);
  refused : (counts : List ℕ → ℕ) (status : Status) (line : List ℕ) → IsFirstRefused (g.F.Shelf.files l.fn.shelf) (RoseIn (g.F.Shelf.faults l.fn.shelf) counts) (drop l.at l.slots) (drop l.at (bytes_of l.words)) status line
      → IsFirstRefused (g.F.Shelf.files l.fn.shelf) (RoseIn (g.F.Shelf.faults l.fn.shelf) counts) l.slots (bytes_of l.words) status line;
}
