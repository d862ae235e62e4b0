-- Lines and columns. A line feed ends a line, and no other byte does; the first line and the first
-- column of a line are 1.
use Rattle.std.specs.Prelude.{◌≡◌, ◌≢◌, ◌+◌, ◌-◌, ◌<◌, ◌≤◌, ◌==◌, ◌⊎◌, ℕ, List, Bool, length, take, slice_index}
use Rattle.std.specs.List.{count_by}

abbrev pub is_feed : ℕ → Bool
is_feed b = b == 10

-- a line starts where the file starts, or right behind a line feed
abbrev pub StartsLine : List ℕ → ℕ → Type 0
StartsLine bytes start = (start ≡ 0) ⊎ (slice_index bytes (start - 1) ≡ 10)

-- it ends where the file ends, or right before a line feed
abbrev pub EndsLine : List ℕ → ℕ → Type 0
EndsLine bytes end = (end ≡ length bytes) ⊎ (slice_index bytes end ≡ 10)

-- a line from its first byte to the place behind its last one
pub record IsLine (bytes : List ℕ) (start end : ℕ) : Type 0 where
  pub starts : StartsLine bytes start
  pub inside : (k : ℕ) → start ≤ k → k < end → slice_index bytes k ≢ 10
  pub ends : EndsLine bytes end
  pub ordered : start ≤ end
  pub within : end ≤ length bytes

-- the number of the line that starts there
abbrev pub line_number : List ℕ → ℕ → ℕ
line_number bytes start = count_by is_feed (take start bytes) + 1

-- the column of a byte of that line
abbrev pub column : ℕ → ℕ → ℕ
column start at = at - start + 1
