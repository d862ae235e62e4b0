-- Where no `spawn` body writes a register, none writes this one.
use Rattle.std.proofs.Common.{◌≡◌, ◌∙◌, refl, ap, ℕ, zero, suc, ◌-◌, List, [], ◌∷◌, get_or, Option, Some, None, Bool, true, false}
use Rattle.std.specs.Prelude.{◌||◌, is_some, if◌then◌else◌, nat_lt}
use Rattle.rv_asks.specs.declared.asks.Asks.{Asks}
use Rattle.ix_plan.specs.declared.design.Target.TheVariants.{X}
use Rattle.ix_plan.specs.declared.design.Target.TheVariants as targets
use Rattle.rv_lawful.specs.Outstanding.{is_register, has_target, touches}
use Rattle.rv_holds.specs.Tokens.{Slots, or_else}
use Rattle.rv_holds.specs.Holds.{oldest, register_at, spawner, spawns_at}
use Rattle.rv_holds.specs.Meets.{is_any, has_targets, is_spawned}

left_of : (p q : Bool) → p || q ≡ false → p ≡ false
left_of true q e = absurd cc
left_of false q e = refl

right_of : (p q : Bool) → p || q ≡ false → q ≡ false
right_of true q e = absurd cc
right_of false q e = e

none_set : (flags : List Bool) (r : ℕ) → is_any flags ≡ false → get_or flags r false ≡ false
none_set [] r e = refl
none_set (flag ∷ flags) zero e = left_of flag (is_any flags) e
none_set (flag ∷ flags) (suc r) e = none_set flags r (right_of flag (is_any flags) e)

no_register : (spawned : Option ℕ) (n : ℕ) → is_some spawned ≡ false → is_register spawned n ≡ false
no_register None n e = refl
no_register (Some r) n e = absurd cc

pub no_target : (a : Asks) (n : ℕ) → has_targets a ≡ false → has_target a (register_at n) ≡ false
no_target a n e = by (nat_lt n 32) where
  by : (b : Bool) → has_target a (if b then X n else targets.Custom (n - 32)) ≡ false
  by true = no_register a.spawned n (left_of (is_some a.spawned) (is_any a.spawned_customs) e)
  by false = none_set a.spawned_customs (n - 32) (right_of (is_some a.spawned) (is_any a.spawned_customs) e)

unspawned : (older : Slots) (n : ℕ) → is_spawned older ≡ false → oldest (spawns_at n) older ≡ None
unspawned [] n e = refl
unspawned (None ∷ older) n e = unspawned older n e
unspawned (Some t ∷ older) n e =
    ap (λ o. or_else o (if spawns_at n t then Some t.cell.serial else None)) (unspawned older n (right_of (has_targets t.asks) (is_spawned older) e))
    ∙ ap (λ b. if b then Some t.cell.serial else None) (no_target t.asks n (left_of (has_targets t.asks) (is_spawned older) e))

-- an instruction waits for no register that no older one spawns
pub no_spawner : (older : Slots) (a : Asks) → is_spawned older ≡ false → (n : ℕ) → spawner older a n ≡ None
no_spawner older a e n = by (touches a (register_at n)) where
  by : (b : Bool) → (if b then oldest (spawns_at n) older else None) ≡ None
  by true = unspawned older n e
  by false = refl
