-- Types and fit (CoreDSL 2, integer types; the reading of a pattern is two's complement).
use Rattle.std.specs.Prelude.{◌≡◌, ℕ, ◌-◌, ◌^◌, ℤ, pos, ◌+ℤ◌, ◌-ℤ◌, ◌*ℤ◌, ◌≤ℤ◌, ◌<ℤ◌, Bool, true, false, nat_lt, if◌then◌else◌}
use Rattle.ix_bits.specs.declared.number.Ty.{Ty}

-- the least number of a type: 0, or -2^(width-1)
abbrev pub least_of : Bool → ℕ → ℤ
least_of false width = pos 0
least_of true width = pos 0 -ℤ pos (2 ^ (width - 1))

-- one more than the greatest number of a type: 2^width, or 2^(width-1)
abbrev pub past_of : Bool → ℕ → ℤ
past_of false width = pos (2 ^ width)
past_of true width = pos (2 ^ (width - 1))

-- the number is one of the type of this signedness and width
pub record IsWithin (signed : Bool) (width : ℕ) (n : ℤ) : Type 0 where
  pub from_least : least_of signed width ≤ℤ n
  pub below_past : n <ℤ past_of signed width

-- the number is one of the type's
abbrev pub HoldsNumber : Ty → ℤ → Type 0
HoldsNumber ty n = IsWithin ty.signed ty.width n

-- the two numbers differ by a multiple of 2^width
abbrev pub IsCongruent : ℕ → ℤ → ℤ → Type 0
IsCongruent width m n = (k : ℤ) × (m ≡ n +ℤ (k *ℤ pos (2 ^ width)))

-- m is the one number of the type that is congruent to n
pub record IsFit (ty : Ty) (n m : ℤ) : Type 0 where
  pub holds : HoldsNumber ty m
  pub congruent : IsCongruent ty.width m n

-- the number that a pattern below 2^width stands for in a type of that width
abbrev pub number_of : Bool → ℕ → ℕ → ℤ
number_of false width raw = pos raw
number_of true width raw = if nat_lt raw (2 ^ (width - 1)) then pos raw else pos raw -ℤ pos (2 ^ width)
