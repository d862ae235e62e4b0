-- How far lines of a kind go.
use Rattle.std.specs.Prelude.{◌≡◌, ℕ, ◌<◌, ◌≤◌, zero, suc, List, [], ◌∷◌, ◌⊎◌, length, Option}
use Rattle.ix_verilog.specs.declared.source.Source.{Source}
use Rattle.ix_verilog.specs.Words.{Word}
use Rattle.ix_vline.specs.declared.kind.Kind.{Kind}
use Rattle.ix_vline.specs.declared.kind.Slot.{Slot}
use Rattle.ix_vline.specs.Slots.{Takes, slots}

-- each slot takes the word at its place, and there are as many
abbrev pub Fits : Option Source → List Slot → List Word → Type 0
Fits o [] ws = ws ≡ []
Fits o (x ∷ xs) ws = (w : Word) × (r : List Word) × (ws ≡ w ∷ r) × Takes o x w × Fits o xs r

-- so many slots from the first on take the words from the first on, and no more
abbrev pub Reaches : Option Source → List Slot → List Word → ℕ → Type 0
Reaches o [] ws n = n ≡ 0
Reaches o (x ∷ xs) [] n = n ≡ 0
Reaches o (x ∷ xs) (w ∷ ws) zero = Takes o x w → ⊥
Reaches o (x ∷ xs) (w ∷ ws) (suc n) = Takes o x w × Reaches o xs ws n

-- lines of the kind go so far, and the line does not end there
abbrev pub StopsIn : Option Source → List Word → Kind → ℕ → Type 0
StopsIn o ws k n = Reaches o (slots k) ws n × (n < length (slots k))

-- none of these kinds has a line with which the words begin, and none goes further
abbrev pub NoneBeyond : Option Source → List Word → ℕ → List Kind → Type 0
NoneBeyond o ws n [] = Unit {0}
NoneBeyond o ws n (k ∷ ks) = ((m : ℕ) × StopsIn o ws k m × (m ≤ n)) × NoneBeyond o ws n ks

-- the most that a kind goes, if any goes further than no word
abbrev pub SomeTo : Option Source → List Word → ℕ → Type 0
SomeTo o ws n = (n ≡ 0) ⊎ ((k : Kind) × StopsIn o ws k n)
