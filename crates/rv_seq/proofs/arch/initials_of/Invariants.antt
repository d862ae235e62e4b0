use Rattle.std.proofs.Common.{◌≡◌, ◌<◌, ℕ, length, get_or}
use Rattle.rv_seq.specs.States.{zero_bit, initial_of}
use Rattle.rv_seq.proofs.arch.initials_of.Given as goal

abbrev pub invariant-loop-number : goal.invariant-loop-number
invariant-loop-number l = (length l.all ≡ 16) × ((r : ℕ) → r < l.number → get_or l.all r zero_bit ≡ initial_of l.registers r)
