use Rattle.std.proofs.Common.{◌≡◌, ◌<◌, ℕ, length, get_or, None}
use Rattle.std.specs.Option.{option_or}
use Rattle.rv_seq.proofs.word_effect.customs_over.Given as goal

abbrev pub invariant-loop-r : goal.invariant-loop-r
invariant-loop-r l = (length l.all ≡ 16) × ((r : ℕ) → r < l.r → get_or l.all r None ≡ option_or (get_or l.later r None) (get_or l.earlier r None))
