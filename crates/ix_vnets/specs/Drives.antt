-- The lines of modules whose widths have to agree, `assign` and `if`, in the order of the text.
use Rattle.std.specs.Prelude.{◌≡◌, ℕ, List, ◌∷◌, ◌++◌, map, length, codes, Bool, ◌||◌}
use Rattle.std.specs.Str.{bytes_eq}
use Rattle.std.specs.List.{AllByRecursion, flat_map}
use Rattle.ix_net.specs.declared.netlist.Cell.{Cell}
use Rattle.ix_net.specs.declared.netlist.Bank.{Bank}
use Rattle.ix_verilog.specs.declared.source.Source.{Source}
use Rattle.ix_verilog.specs.declared.source.Assign.{Assign}
use Rattle.ix_verilog.specs.declared.source.Update.{Update}
use Rattle.ix_verilog.specs.Words.{Word}
use Rattle.ix_vnets.specs.declared.error.NetErr.{NetErr}
use Rattle.ix_vnets.specs.declared.error.NetErr.TheVariants.{Misfit, Memory}
use Rattle.ix_vnets.specs.Nets.{IsCellOf, IsBankOf}

pub data Drive : Type 0 where
  assigning : Source → Assign → Drive
  updating : Source → Update → Drive

abbrev pub drives_in : Source → List Drive
drives_in s = map (assigning s) s.assigns ++ map (updating s) s.updates

abbrev pub drives : List Source → List Drive
drives ss = flat_map drives_in ss

-- the widths of the line agree, and its right side keeps the rules on widths: there is a cell or a bank for it
abbrev pub DriveFits : Drive → Type 0
DriveFits (assigning s a) = (c : Cell) × IsCellOf s a c
DriveFits (updating s u) = (b : Bank) × IsBankOf s u b

-- the word is one with which such a line begins
abbrev pub is_drive : Word → Bool
is_drive w = bytes_eq w (codes "assign") || bytes_eq w (codes "if")

-- the element with this number, from 0, is the first that has not the property
pub record IsFirstNot {X : Type 0} (P : X → Type 0) (xs : List X) (k : ℕ) : Type 0 where
  pub front : List X
  pub item : X
  pub rest : List X
  pub are : xs ≡ front ++ item ∷ rest
  pub number : k ≡ length front
  pub before : AllByRecursion P front
  pub breaks : P item → ⊥

-- a module by number, and a line in it
pub record IsMisfit (modules : List Source) (module' drive : ℕ) : Type 0 where
  pub front : List Source
  pub item : Source
  pub rest : List Source
  pub are : modules ≡ front ++ item ∷ rest
  pub number : module' ≡ length front
  pub before : AllByRecursion DriveFits (drives front)
  pub here : IsFirstNot DriveFits (drives_in item) drive

-- what a refusal says of the modules
abbrev pub IsTold : List Source → NetErr → Type 0
IsTold modules (Misfit m d) = IsMisfit modules m d
IsTold modules Memory = Unit {0}
