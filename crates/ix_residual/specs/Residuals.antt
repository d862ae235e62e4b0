-- Flows over the bounds of a problem and residual paths (residual networks of flows; an amount moves along one path at a time).
-- The operations are nodes by their numbers, and the root is the node after the last operation.
use Rattle.std.specs.Prelude.{ℕ, ℤ, pos, negsuc, Bool, true, false, ◌≡◌, ◌≢◌, ◌+◌, ◌-◌, ◌<◌, ◌^◌, ◌<ℤ◌, ◌+ℤ◌, ◌-ℤ◌, if◌then◌else◌, min, List, [], ◌∷◌, length, slice_index, slice_index_or, slice_set, All}
use Rattle.ix_sheet.specs.declared.problem.Bound.{Bound}
use Rattle.ix_sheet.specs.declared.problem.Bound.TheVariants.{Early, Late, Dep, Chain}
use Rattle.ix_sheet.specs.Schedules.{first_of, last_of}
use Rattle.ix_residual.specs.declared.residual.Path.{Path}
use Rattle.ix_residual.specs.declared.residual.Residual.{Residual}

-- the bound at a place
abbrev pub bound_at : List Bound → ℕ → Bound
bound_at bounds k = slice_index_or bounds k (Early 0)

-- the nodes that a bound goes from and to; n is the root
abbrev pub from_of : ℕ → Bound → ℕ
from_of n (Early k) = n
from_of n (Late k) = k
from_of n (Dep i j) = i
from_of n (Chain path) = first_of path

abbrev pub to_of : ℕ → Bound → ℕ
to_of n (Early k) = k
to_of n (Late k) = n
to_of n (Dep i j) = j
to_of n (Chain path) = last_of path

-- a step of a path: the place of a bound, and whether the bound is gone along (true) or against (false)
abbrev pub Step : Type 0
Step = ℕ × Bool

-- the step at a place
abbrev pub place_at : List Step → ℕ → Step
place_at steps k = slice_index_or steps k (0, false)

-- the node before and behind a step
abbrev pub before : ℕ → List Bound → Step → ℕ
before n bounds s = if s.1 then from_of n (bound_at bounds s.0) else to_of n (bound_at bounds s.0)

abbrev pub behind : ℕ → List Bound → Step → ℕ
behind n bounds s = if s.1 then to_of n (bound_at bounds s.0) else from_of n (bound_at bounds s.0)

-- no bound is named twice
abbrev pub IsOnce : List Step → Type 0
IsOnce steps = (j k : ℕ) → j < k → k < length steps → (place_at steps j).0 ≢ (place_at steps k).0

-- the root of a residual is its last node
abbrev pub root_of : Residual → ℕ
root_of r = length r.left - 1

abbrev pub left_at : Residual → ℕ → ℤ
left_at r v = slice_index_or r.left v (pos 0)

-- where a path starts and ends
abbrev pub source_of : Residual → Path → ℕ
source_of r path = before (root_of r) r.bounds (place_at path.steps 0)

abbrev pub target_of : Residual → Path → ℕ
target_of r path = behind (root_of r) r.bounds (place_at path.steps (length path.steps - 1))

-- each step starts where the one before ends, no bound is named twice, and what is gone against carries an amount
pub record IsResidualPath (r : Residual) (path : Path) : Type 0 where
  pub some : 0 < length path.steps
  pub within : All (λ s. s.0 < length r.bounds) path.steps
  pub joined : (k : ℕ) → k + 1 < length path.steps →
      before (root_of r) r.bounds (place_at path.steps (k + 1)) ≡ behind (root_of r) r.bounds (place_at path.steps k)
  pub once : IsOnce path.steps
  pub carried : All (λ s. s.1 ≡ false → 0 < slice_index r.amounts s.0) path.steps

-- what a balance needs, and what it has to spare
abbrev pub need_of : ℤ → ℕ
need_of (pos n) = n
need_of (negsuc n) = 0

abbrev pub spare_of : ℤ → ℕ
spare_of (pos n) = 0
spare_of (negsuc n) = n + 1

-- the greatest amount, up to `most`, by which the amounts that a path goes against can fall
abbrev pub room : List ℕ → ℕ → List Step → ℕ
room amounts most [] = most
room amounts most (s ∷ rest) = room amounts (if s.1 then most else min most (slice_index amounts s.0)) rest

-- .. and that both ends allow
abbrev pub greatest : Residual → Path → ℕ
greatest r path = room r.amounts (min (need_of (left_at r (target_of r path))) (spare_of (left_at r (source_of r path)))) path.steps

-- d is moved along steps
abbrev pub moved : List ℕ → ℕ → List Step → List ℕ
moved amounts d [] = amounts
moved amounts d (s ∷ rest) =
    moved (slice_set amounts s.0 (if s.1 then slice_index amounts s.0 + d else slice_index amounts s.0 - d)) d rest

-- d less is left at b, and d more at a
abbrev pub settled : List ℤ → ℕ → ℕ → ℕ → List ℤ
settled left a b d =
    slice_set (slice_set left a (slice_index_or left a (pos 0) +ℤ pos d)) b (slice_index_or left b (pos 0) -ℤ pos d)

-- the greatest amount is moved along the path
abbrev pub augmented : Residual → Path → Residual
augmented r path = record {
  bounds = r.bounds;
  amounts = moved r.amounts (greatest r path) path.steps;
  left = settled r.left (source_of r path) (target_of r path) (greatest r path);
}

-- there is one amount per bound and a balance for each end of a bound, the path is a residual path from a node that has to spare
-- to one that needs, and no amount that grows passes 2 ^ 64 - 1
pub record CanAugment (r : Residual) (path : Path) : Type 0 where
  pub amounts_len : length r.amounts ≡ length r.bounds
  pub ends : All (λ bound. (from_of (root_of r) bound < length r.left) × (to_of (root_of r) bound < length r.left)) r.bounds
  pub is : IsResidualPath r path
  pub spare : left_at r (source_of r path) <ℤ pos 0
  pub need : pos 0 <ℤ left_at r (target_of r path)
  pub fits : All (λ s. s.1 ≡ true → slice_index r.amounts s.0 + greatest r path < 2 ^ 64) path.steps

-- the paths are gone along in turn
abbrev pub replayed : Residual → List Path → Residual
replayed r [] = r
replayed r (x ∷ xs) = replayed (augmented r x) xs

-- each path can be gone along at its turn
abbrev pub AreAugmentations : Residual → List Path → Type 0
AreAugmentations r [] = Unit {0}
AreAugmentations r (x ∷ xs) = CanAugment r x × AreAugmentations (augmented r x) xs
