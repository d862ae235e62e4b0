use Rattle.std.proofs.Common.{◌≡◌, ℕ, ◌+◌, ◌<◌, length, take, Contains}
use Rattle.ix_net.specs.declared.ordering.Mark.TheVariants.{Done}
use Rattle.ix_net.specs.Order.{mark_at}
use Rattle.ix_net.proofs.ordering.first_waiting.Given as goal

abbrev pub invariant-loop-signal : goal.invariant-loop-signal
invariant-loop-signal l = (k : ℕ) → k < length l.marks → Contains (take l.signal-index l.signals) (l.first + k) → mark_at l.marks k ≡ Done
