-- The balances of a problem, counted edge by edge.
use Rattle.std.specs.Prelude.{ℕ, ℤ, pos, neg_ℤ, ◌≡◌, ◌+◌, ◌*◌, ◌≤◌, ◌<◌, ◌-ℤ◌, List, length, slice_index_or, take}
use Rattle.ix_sheet.specs.declared.problem.Problem.{Problem}
use Rattle.ix_sheet.specs.Schedules.{node_at, weight_of}
use Rattle.ix_sheet.specs.Bounds.{amount_at}

-- what is needed at an operation, and what it has to spare, by its first i edges
abbrev pub need_to : Problem → ℕ → ℕ → ℕ
need_to p i = amount_at (λ e. e.1) (λ e. weight_of (node_at p e.0)) (take i p.edges)

abbrev pub spare_to : Problem → ℕ → ℕ → ℕ
spare_to p i = amount_at (λ e. e.0) (λ e. weight_of (node_at p e.0)) (take i p.edges)

-- the first i edges are counted, and so no balance is far from 0
pub record IsCountedTo (p : Problem) (i : ℕ) (left : List ℤ) : Type 0 where
  pub len : length left ≡ length p.ops + 1
  pub each : (v : ℕ) → v < length p.ops → slice_index_or left v (pos 0) ≡ pos (1 + need_to p i v) -ℤ pos (spare_to p i v)
  pub need_low : (v : ℕ) → need_to p i v ≤ 128 * i
  pub spare_low : (v : ℕ) → spare_to p i v ≤ 128 * i
  pub root : slice_index_or left (length p.ops) (pos 0) ≡ neg_ℤ (pos (length p.ops))
