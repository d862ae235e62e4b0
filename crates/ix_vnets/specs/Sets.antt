-- Sets of names.
use Rattle.std.specs.Prelude.{◌≡◌, ◌↔◌, List, Contains, String, IsTrue}
use Rattle.std.specs.BTreeSet.{BTreeSet, contains_text}
use Rattle.ix_verilog.specs.Words.{Word}
use Rattle.ix_vnets.specs.Names.{AreOnce, IsFirstTwice}

-- the set has these names, which stand once
pub record IsSet {Y : Type 0} (m : BTreeSet (String Y)) (xs : List Word) : Type 0 where
  pub once : AreOnce xs
  pub has : (n : Word) → IsTrue (contains_text m n) ↔ Contains xs n
