use Rattle.std.proofs.Common.{◌≡◌, ◌-◌, ◌++◌, List, ℕ}
use Rattle.std.specs.Prelude.{reverse}
use Rattle.rv_harts.specs.Harts.{Fetched}
use Rattle.rv_harts.specs.Events.{standing}
use Rattle.rv_holds.specs.Holds.{least_from}
use Rattle.rv_lawful.specs.Settings.{Setting}
use Rattle.rv_barrel.specs.Cells.{fetched_of, AreAsked, AreOwed}
use Rattle.rv_barrel.specs.Turning.{waited}
use Rattle.rv_barrel.proofs.turning.least_wait.Given as goal

abbrev pub invariant-loop-number : goal.invariant-loop-number
invariant-loop-number l = (k : Setting) (q : ℕ) (all : List Fetched) (c : Fetched) → l.asks ≡ k.asks c.word → AreAsked k l.older → AreOwed k l.owed all →
    least_from (waited l.wait k c (reverse (standing (fetched_of q l.older))) (all ++ reverse (standing (fetched_of q l.older)))) l.number (l.count - l.number)
    ≡ least_from (waited l.wait k c (reverse (standing (fetched_of q l.older))) (all ++ reverse (standing (fetched_of q l.older)))) 0 l.count
