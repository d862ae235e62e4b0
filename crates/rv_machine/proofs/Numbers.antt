-- The numbers of registers, x before custom ones.
use Rattle.std.proofs.Common.{◌≡◌, ◌∙◌, ap, ℕ, ◌+◌, ◌-◌, ◌<◌, Bool, true, false, arith}
use Rattle.std.specs.Prelude.{if◌then◌else◌, nat_lt}
use Rattle.std.proofs.lemmas.Bool.Decides.{nat_tests}
use Rattle.ix_plan.specs.declared.design.Target.TheVariants.{X}
use Rattle.ix_plan.specs.declared.design.Target.TheVariants as target
use Rattle.rv_holds.specs.Holds.{register_at}

pub x_at : (r : ℕ) → r < 32 → X r ≡ register_at r
x_at r lt = ap (λ (b : Bool). if b then X r else target.Custom (r - 32)) (low r lt) where
  low : (r : ℕ) → r < 32 → true ≡ nat_lt r 32
  low r lt = grind (arith, nat_tests)

pub custom_at : (c : ℕ) → target.Custom c ≡ register_at (32 + c)
custom_at c = ap (λ n. target.Custom n) same ∙ ap (λ (b : Bool). if b then X (32 + c) else target.Custom (32 + c - 32)) (high c) where
  same : c ≡ 32 + c - 32
  same = omega arith

  high : (c : ℕ) → false ≡ nat_lt (32 + c) 32
  high c = grind (arith, nat_tests)
