-- What a sink over memory tells, which has room for so many bytes and never fails (this project's choice).
use Rattle.std.specs.Prelude.{ℕ, ◌+◌, List, ◌++◌, length, Option, None, Some, nat_le, if◌then◌else◌}

-- the bytes that were written, as long as they fit, and the count of bytes that fit
pub record Room : Type 0 where
  pub written : Option (List ℕ)
  pub most : ℕ

-- what is told after a piece: from the first byte that does not fit on, nothing
abbrev pub told_after : ℕ → Option (List ℕ) → List ℕ → Option (List ℕ)
told_after most None piece = None
told_after most (Some bytes) piece = if nat_le (length bytes + length piece) most then Some (bytes ++ piece) else None
