-- Assignments that depend on themselves without a register between (IEEE 1364-2005, 6.1; that there is none is this project's choice).
use Rattle.std.specs.Prelude.{◌≡◌, ◌≢◌, ℕ, List, ◌∷◌, ◌++◌, map, All, AllPairs}
use Rattle.ix_net.specs.declared.netlist.Net.{Net}
use Rattle.ix_net.specs.declared.netlist.Cell.{Cell}
use Rattle.ix_net.specs.Valid.{DependsOn}

-- no two cells have one target
abbrev pub AreDrivenOnce : List Cell → Type 0
AreDrivenOnce cells = AllPairs (λ x y. x ≢ y) (map (λ c. c.target) cells)

-- no name of the net depends on itself
abbrev pub IsLoopless : Net → Type 0
IsLoopless net = (name : List ℕ) → DependsOn net name name → ⊥

-- the name is the target of the first cell whose target depends on itself
pub record IsFirstLoop (net : Net) (name : List ℕ) : Type 0 where
  pub front : List Cell
  pub cell : Cell
  pub rest : List Cell
  pub are : net.cells ≡ front ++ cell ∷ rest
  pub named : cell.target ≡ name
  pub loop : DependsOn net name name
  pub before : All (λ c. DependsOn net c.target c.target → ⊥) front

-- the same of nets one after another
pub record FirstLoop (nets : List Net) (name : List ℕ) : Type 0 where
  pub front : List Net
  pub net : Net
  pub rest : List Net
  pub are : nets ≡ front ++ net ∷ rest
  pub loop : IsFirstLoop net name
  pub before : All IsLoopless front
