use Rattle.std.proofs.Common.{◌≡◌, ◌<◌, ℕ, length, get_or, false, None}
use Rattle.std.specs.Prelude.{is_some}
use Rattle.rv_tried.proofs.trial.marked.Given as goal

abbrev pub invariant-loop-number : goal.invariant-loop-number
invariant-loop-number l = (length l.all ≡ 16) × ((r : ℕ) → r < l.number → get_or l.all r false ≡ is_some (get_or l.customs r None))
