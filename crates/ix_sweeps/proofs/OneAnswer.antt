-- An extension has a sweep, or a first behaviour with too many operations.
use Rattle.std.proofs.Common.{◌≢◌, refl, ℕ, ◌<◌, ◌≤◌, List, [], ◌∷◌, length, arith, inl, inr}
use Rattle.ix_extension.specs.Extensions.{ExtensionTree}
use Rattle.ix_behaviour.specs.declared.which.Which.{Which}
use Rattle.ix_graph_laws.specs.Operations.{operations_at}
use Rattle.ix_sheet.specs.declared.sheet.Sheet.{Sheet}
use Rattle.ix_schedules.specs.Scheduling.{behaviours_of, AtFirst}
use Rattle.ix_schedules.specs.ScheduleText.{IsTooManyText}
use Rattle.ix_sweeps.specs.declared.sweeping.Swept.{Swept}
use Rattle.ix_sweeps.specs.declared.sweeping.SweepErr.{SweepErr}
use Rattle.ix_sweeps.specs.declared.sweeping.SweepErr.TheVariants.{TooManyOps, Memory}
use Rattle.ix_sweeps.specs.Sweeping.{AreSwept, IsSmall, IsFirstLarge}
use Rattle.ix_sweeps.specs.SweepText.{IsSweepText}
use Rattle.ix_sweeps.proofs.Turns.{is_small}

too_many : (n : ℕ) → n ≤ 256 → 256 < n → ⊥
too_many n few large = omega (arith, few, large)

none_first : (x : ExtensionTree) (sheet : Sheet) (text : List ℕ) (ws : List Which) (ss : List Swept) → AreSwept x sheet ws ss → AtFirst (IsSmall x) (IsTooManyText x text) ws → ⊥
none_first x sheet text [] ss r f = f
none_first x sheet text (w ∷ ws) [] r f = r
none_first x sheet text (w ∷ ws) (s ∷ ss) r (inl here) = too_many (length (operations_at x w)) (is_small x sheet w s r.0) here.large
none_first x sheet text (w ∷ ws) (s ∷ ss) r (inr f) = none_first x sheet text ws ss r.1 f.1

pub swept_not_refused : (x : ExtensionTree) (sheet : Sheet) (text : List ℕ) (e : SweepErr) → e ≢ Memory → IsSweepText x sheet text → IsFirstLarge x (behaviours_of x) e → ⊥
swept_not_refused x sheet text (TooManyOps line) some s r = none_first x sheet line (behaviours_of x) s.sweeps s.swept r
swept_not_refused x sheet text Memory some s r = some refl
