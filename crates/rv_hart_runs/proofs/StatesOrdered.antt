-- What is kept of a hart holds before each row.
use Rattle.std.proofs.Common.{◌≡◌, ap, ℕ, zero, suc, ◌-◌, ◌<◌, List, Some, arith}
use Rattle.ix_plan.specs.declared.design.Design.{Design}
use Rattle.rv_lawful.specs.Settings.{Setting}
use Rattle.rv_harts.specs.BarrelRows.{hart_setting}
use Rattle.rv_harts.specs.Harts.{Fetched}
use Rattle.rv_harts.specs.HartRows.{stages_in, leaving, hart_at}
use Rattle.rv_hart_runs.specs.HartRuns.{IsGoingOn, KnownHart}
use Rattle.rv_hart_runs.proofs.StatesLists.{last_there}
use Rattle.rv_hart_runs.proofs.StatesKept.{IsOrdered, kept_first, kept_next}

module _ (d : Design) (image : List ℕ) where
  abbrev k : Setting
  k = hart_setting d image

  -- the numbers of the stages
  pub reads_inside : k.shape.rd < k.shape.stages - 1
  reads_inside = let law = d.sheet.shape.lawful in let a = law.reads_first in let b = law.memory_late in let c = law.memory_inside in omega (arith, a, b, c)

  executes_inside : k.shape.ex < k.shape.stages - 1
  executes_inside = let law = d.sheet.shape.lawful in let b = law.memory_late in let c = law.memory_inside in omega (arith, b, c)

  -- what retires goes on
  pub leaves_going : (h n : ℕ) → KnownHart k h n → IsOrdered k (hart_at k h n) → (c : Fetched) → leaving k h n (hart_at k h n) ≡ Some c → IsGoingOn k c
  leaves_going h n hart kept c e =
      hart.tried (k.shape.stages - 1) c executes_inside (last_there (stages_in k h n (hart_at k h n)) (k.shape.stages - 1) c (ap (λ m. suc m) kept.long) e)

  pub ordered : (h : ℕ) → ((n : ℕ) → KnownHart k h n) → (n : ℕ) → IsOrdered k (hart_at k h n)
  unfolding hart_at
  ordered h hart zero = kept_first k
  ordered h hart (suc n) =
      let kept = ordered h hart n in
      kept_next k h n (hart_at k h n) kept reads_inside (leaves_going h n (hart n) kept)
