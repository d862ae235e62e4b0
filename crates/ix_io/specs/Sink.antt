-- What a sink tells of the bytes that it was given (this project's choice).
use Rattle.std.specs.Prelude.{◌≡◌, ℕ, ◌<◌, List, ◌++◌, length, take, Option, None, Some}

-- where the sink tells now, it told before, and the bytes stand behind those of before
abbrev pub Appends : Option (List ℕ) → Option (List ℕ) → List ℕ → Type 0
Appends before None bytes = Unit {0}
Appends None (Some now) bytes = ⊥
Appends (Some before) (Some now) bytes = now ≡ before ++ bytes

-- a front of the bytes was appended, and not all of them
pub record AppendsFront (before now : Option (List ℕ)) (bytes : List ℕ) : Type 0 where
  pub count : ℕ
  pub short : count < length bytes
  pub appends : Appends before now (take count bytes)
