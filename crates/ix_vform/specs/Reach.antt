-- How far a line of a kind goes.
use Rattle.std.specs.Prelude.{◌≡◌, ◌≤◌, ◌↔◌, List, length, Option, IsTrue}
use Rattle.ix_verilog.specs.declared.source.Source.{Source}
use Rattle.ix_verilog.specs.Words.{Word}
use Rattle.ix_vline.specs.declared.kind.Slot.{Slot}
use Rattle.ix_vline.specs.Reached.{Reaches}
use Rattle.ix_vform.specs.declared.slot.Reach.{Reach}

-- so many words, and whether these are all
pub record IsReach (o : Option Source) (xs : List Slot) (ws : List Word) (r : Reach) : Type 0 where
  pub reaches : Reaches o xs ws r.words
  pub within : r.words ≤ length xs
  pub whole : IsTrue r.is_whole ↔ (r.words ≡ length xs)
