use Rattle.std.proofs.Common.{◌≡◌, ℕ, ◌<◌, length, Some}
use Rattle.std.specs.Prelude.{slice_get}
use Rattle.rv_asks.specs.Asks.{IsAskingOf}
use Rattle.rv_trace.specs.declared.row.Cell.{Cell}
use Rattle.rv_watch.specs.Watched.{setting_of}
use Rattle.rv_watch.proofs.knowing.asks_in.Given as goal

abbrev pub invariant-loop-stage : goal.invariant-loop-stage
invariant-loop-stage l =
    (length l.all ≡ 5)
    × (IsAskingOf l.against.design.now l.against.asking.now → (stage : ℕ) (c : Cell) → stage < l.stage → slice_get l.row.cells stage ≡ Some (Some c) → slice_get l.all stage ≡ Some (Some ((setting_of l.against).asks c.word)))
