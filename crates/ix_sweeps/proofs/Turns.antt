-- Behaviours in their turn: those that were swept, and the first that has too many operations.
use Rattle.std.proofs.Common.{◌≡◌, subst, ℕ, zero, suc, ◌+◌, ◌<◌, ◌≤◌, List, [], ◌∷◌, ◌++◌, length, take, get_or, arith, inl, inr}
use Rattle.std.proofs.lemmas.List.{take_all}
use Rattle.ix_extension.specs.Extensions.{ExtensionTree}
use Rattle.ix_behaviour.specs.declared.which.Which.{Which}
use Rattle.ix_sheet.specs.declared.sheet.Sheet.{Sheet}
use Rattle.ix_schedules.specs.Scheduling.{AtFirst}
use Rattle.ix_schedules.specs.ScheduleText.{IsTooManyText}
use Rattle.ix_sweeps.specs.declared.sweeping.Swept.{Swept}
use Rattle.ix_sweeps.specs.declared.sweeping.SweepErr.{SweepErr}
use Rattle.ix_sweeps.specs.declared.sweeping.SweepErr.TheVariants.{TooManyOps, Memory}
use Rattle.ix_sweeps.specs.Sweeping.{IsSwept, IsSmall, IsLargeAs, AreSwept, IsFirstLarge}

-- what is swept has not too many operations
pub is_small : (x : ExtensionTree) (sheet : Sheet) (w : Which) (s : Swept) → IsSwept x sheet w s → IsSmall x w
is_small x sheet w s h = h.graph_is.few

-- one more is swept
more : (x : ExtensionTree) (sheet : Sheet) (ws : List Which) (ss : List Swept) (k : ℕ) (d : Which) (s : Swept) → k < length ws → AreSwept x sheet (take k ws) ss → IsSwept x sheet (get_or ws k d) s
    → AreSwept x sheet (take (suc k) ws) (ss ++ s ∷ [])
more x sheet [] ss k d s h r one = absurd (omega (arith, h))
more x sheet (w ∷ ws) [] zero d s h r one = (one, tt)
more x sheet (w ∷ ws) (c ∷ ss) zero d s h r one = absurd r
more x sheet (w ∷ ws) [] (suc k) d s h r one = absurd r
more x sheet (w ∷ ws) (c ∷ ss) (suc k) d s h r one = (r.0, more x sheet ws ss k d s (omega (arith, h)) r.1 one)

pub swept_more : (x : ExtensionTree) (sheet : Sheet) (ws : List Which) (ss all : List Swept) (k : ℕ) (d : Which) (s : Swept) → k < length ws → AreSwept x sheet (take k ws) ss → IsSwept x sheet (get_or ws k d) s → all ≡ ss ++ s ∷ []
    → AreSwept x sheet (take (k + 1) ws) all
swept_more x sheet ws ss all k d s h r one e =
    let j : k + 1 ≡ suc k = omega arith in
    rw (j, e) (more x sheet ws ss k d s h r one)

pub swept_all : (x : ExtensionTree) (sheet : Sheet) (ws : List Which) (ss : List Swept) (k : ℕ) → length ws ≤ k → AreSwept x sheet (take k ws) ss → AreSwept x sheet ws ss
swept_all x sheet ws ss k h r = subst (λ (l : List Which). AreSwept x sheet l ss) (take_all k ws h) r

-- the next has too many operations
first_at : (x : ExtensionTree) (sheet : Sheet) (Here : Which → Type 0) (ws : List Which) (ss : List Swept) (k : ℕ) (d : Which) → k < length ws → AreSwept x sheet (take k ws) ss → Here (get_or ws k d) → AtFirst (IsSmall x) Here ws
first_at x sheet Here [] ss k d h r here = absurd (omega (arith, h))
first_at x sheet Here (w ∷ ws) ss zero d h r here = inl here
first_at x sheet Here (w ∷ ws) [] (suc k) d h r here = absurd r
first_at x sheet Here (w ∷ ws) (s ∷ ss) (suc k) d h r here = inr (is_small x sheet w s r.0, first_at x sheet Here ws ss k d (omega (arith, h)) r.1 here)

pub large_next : (x : ExtensionTree) (sheet : Sheet) (ws : List Which) (ss : List Swept) (k : ℕ) (d : Which) (e : SweepErr) → k < length ws → AreSwept x sheet (take k ws) ss → IsLargeAs x e (get_or ws k d) → IsFirstLarge x ws e
large_next x sheet ws ss k d (TooManyOps text) h r here = first_at x sheet (IsTooManyText x text) ws ss k d h r here
large_next x sheet ws ss k d Memory h r here = tt
