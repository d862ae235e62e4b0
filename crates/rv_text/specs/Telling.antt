-- A text that is written to a sink in parts: what was sent, what waits in the buffer, and what is still to come.
use Rattle.std.specs.Prelude.{◌≡◌, List, ℕ, ◌++◌, Option}
use Rattle.ix_io.specs.Sink.{Appends, AppendsFront}

-- so far a front of the whole was sent; the buffer and the rest are what is left of it
pub record Told (before now : Option (List ℕ)) (left rest whole : List ℕ) : Type 0 where
  pub sent : List ℕ
  pub appends : Appends before now sent
  pub parts : sent ++ (left ++ rest) ≡ whole

-- whatever was told before, it is told on: from a sink, a buffer and a rest to the next ones
abbrev pub Carries : Option (List ℕ) → List ℕ → List ℕ → Option (List ℕ) → List ℕ → List ℕ → Type 0
Carries now left rest now' left' rest' = (before : Option (List ℕ)) (whole : List ℕ) → Told before now left rest whole → Told before now' left' rest' whole

-- whatever was told before, the whole was sent
abbrev pub Completes : Option (List ℕ) → List ℕ → List ℕ → Option (List ℕ) → Type 0
Completes now left rest now' = (before : Option (List ℕ)) (whole : List ℕ) → Told before now left rest whole → Appends before now' whole

-- whatever was told before, a front of the whole was sent
abbrev pub Breaks : Option (List ℕ) → List ℕ → List ℕ → Option (List ℕ) → Type 0
Breaks now left rest now' = (before : Option (List ℕ)) (whole : List ℕ) → Told before now left rest whole → AppendsFront before now' whole
