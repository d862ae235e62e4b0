-- An amount that moves along a path, step by step.
use Rattle.std.proofs.Common.{◌≡◌, ℕ, ◌≤◌, ◌<◌, List, length, get_or, drop}
use Rattle.ix_residual.specs.Residuals.{Step, place_at, moved}

-- the amounts after the first i steps
pub record IsMoving (old new : List ℕ) (d : ℕ) (steps : List Step) (i : ℕ) : Type 0 where
  pub same_len : length new ≡ length old
  pub untouched : (k : ℕ) → i ≤ k → k < length steps → get_or new (place_at steps k).0 0 ≡ get_or old (place_at steps k).0 0
  pub rest : moved new d (drop i steps) ≡ moved old d steps
