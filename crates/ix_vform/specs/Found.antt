-- What is found at the front of words.
use Rattle.std.specs.Prelude.{◌≡◌, ℕ, ◌≤◌, List, length, Option}
use Rattle.ix_verilog.specs.declared.source.Source.{Source}
use Rattle.ix_verilog.specs.Words.{Word}
use Rattle.ix_vline.specs.declared.kind.Kind.{Kind}
use Rattle.ix_vline.specs.Slots.{slots}
use Rattle.ix_vline.specs.Reached.{Reaches, StopsIn, NoneBeyond, SomeTo}
use Rattle.ix_vform.specs.declared.found.Found.{Found}
use Rattle.ix_vform.specs.declared.found.Found.TheVariants.{Line, Part}

-- a line of a kind, with so many words
abbrev pub IsLine : Option Source → List Word → Kind → ℕ → Type 0
IsLine o ws k n = (n ≡ length (slots k)) × Reaches o (slots k) ws n

-- among these kinds a line, or the most words that begin one
abbrev pub IsFoundIn : Option Source → List Word → List Kind → Found → Type 0
IsFoundIn o ws ks (Line k n) = IsLine o ws k n
IsFoundIn o ws ks (Part n) = NoneBeyond o ws n ks × SomeTo o ws n

-- among all kinds
abbrev pub IsFound : Option Source → List Word → Found → Type 0
IsFound o ws (Line k n) = IsLine o ws k n
IsFound o ws (Part n) = ((k : Kind) → (m : ℕ) × StopsIn o ws k m × (m ≤ n)) × SomeTo o ws n
