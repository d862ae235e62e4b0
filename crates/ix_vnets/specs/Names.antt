-- Names that stand twice (IEEE 1364-2005, 6.1 and 12.1; that nothing is driven twice, and that what is declared differs from its module, is this project's choice).
use Rattle.std.specs.Prelude.{◌≡◌, ◌≢◌, ◌⊎◌, List, [], ◌∷◌, ◌++◌, map, AllPairs, Contains}
use Rattle.ix_net.specs.Valid.{names}
use Rattle.ix_verilog.specs.declared.source.Source.{Source}
use Rattle.ix_verilog.specs.declared.source.Assign.{Assign}
use Rattle.ix_verilog.specs.declared.source.Update.{Update}
use Rattle.ix_verilog.specs.Words.{Word}
use Rattle.ix_verilog.specs.Subset.{declared}

abbrev pub AreOnce : List Word → Type 0
AreOnce xs = AllPairs (λ x y. x ≢ y) xs

-- the first name that stands in a list a second time
pub record IsFirstTwice (xs : List Word) (n : Word) : Type 0 where
  pub front : List Word
  pub rest : List Word
  pub are : xs ≡ front ++ n ∷ rest
  pub once : AreOnce front
  pub again : Contains front n

-- the same of lists one after another
abbrev pub FirstTwice : List (List Word) → Word → Type 0
FirstTwice [] n = ⊥
FirstTwice (xs ∷ xss) n = IsFirstTwice xs n ⊎ (AreOnce xs × FirstTwice xss n)

abbrev pub AllOnce : List (List Word) → Type 0
AllOnce [] = Unit {0}
AllOnce (xs ∷ xss) = AreOnce xs × AllOnce xss

-- what `assign` lines drive, and what registers do
abbrev pub targets : List Assign → List Word
targets assigns = map (λ (a : Assign). a.target) assigns

abbrev pub updated : List Update → List Word
updated updates = map (λ (u : Update). u.target) updates

-- what each list of a module says once, in the order of their places: its name and what it declares, what is driven, what registers do
abbrev pub said_in : Source → List (List Word)
said_in s = (s.name ∷ names (declared s)) ∷ targets s.assigns ∷ updated s.updates ∷ []

-- the same of modules behind others of these names; the names of modules differ, too
abbrev pub said : List Word → List Source → List (List Word)
said before [] = []
said before (s ∷ ss) = (before ++ s.name ∷ []) ∷ (said_in s ++ said (before ++ s.name ∷ []) ss)
