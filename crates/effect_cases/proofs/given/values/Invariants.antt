use Rattle.std.proofs.Common.{◌≡◌, ◌<◌, ℕ, map, get_or, length}
use Rattle.std.specs.Prelude.{IfSome, slice_get}
use Rattle.ix_mean.specs.Core.{u1}
use Rattle.ix_behaviour.specs.Behaviours.{type_of_register}
use Rattle.effect_cases.proofs.given.values.Given as goal

abbrev pub invariant-loop-number : goal.invariant-loop-number
invariant-loop-number l = (length l.all ≡ 16) × ((r : ℕ) → r < l.number → IfSome (slice_get l.all r) (λ b. b.width ≡ (get_or (map type_of_register l.registers) r u1).width))
