-- What the search for a symbol finds.
use Rattle.std.specs.Prelude.{◌≡◌, ℕ, ◌<◌, ◌≤◌, List, length, take, Some, slice_get}
use Rattle.ix_tree.specs.Tokens.{symbols}
use Rattle.ix_tree.specs.Lexing.{BeginsWith}

-- of the symbols before number i none that begins the bytes is longer than n, and if n is not 0 then symbol k of length n does
pub record IsLongest (bytes : List ℕ) (i k n : ℕ) : Type 0 where
  pub within : n ≤ length bytes
  pub is : 0 < n → slice_get symbols k ≡ Some (take n bytes)
  pub longest : (m : ℕ) (s : List ℕ) → m < i → slice_get symbols m ≡ Some s → BeginsWith s bytes → length s ≤ n

-- no symbol begins the bytes
abbrev pub NoSymbol : List ℕ → Type 0
NoSymbol bytes = (m : ℕ) (s : List ℕ) → slice_get symbols m ≡ Some s → BeginsWith s bytes → ⊥
