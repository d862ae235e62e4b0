-- What is known of the places of operations and of their arguments.
use Rattle.std.specs.Prelude.{ℕ, ◌<◌, ◌≤◌, List, length}
use Rattle.std.specs.List.{AllByRecursion}
use Rattle.ix_bits.specs.declared.number.Ty.{Ty}
use Rattle.ix_mean.specs.Terms.{Term, t_const, t_read, t_one, t_entry, t_two, t_three}
use Rattle.ix_mean.specs.Order.{Among}
use Rattle.ix_mean.specs.Typing.{IsTerm}
use Rattle.ix_terms.specs.Stores.{Stock, at, size}
use Rattle.ix_terms.specs.Places.{IsOperation, IsTermAt}
use Rattle.ix_flow.specs.Orders.{terms_at}

-- an operation has typed arguments; one that reads a table is typed itself
abbrev pub IsSound : List Ty → Term → Type 0
IsSound ts (t_const ty raw) = Unit {0}
IsSound ts (t_read k ty) = Unit {0}
IsSound ts (t_one k ty a) = IsTerm ts a
IsSound ts (t_entry n es ty a) = IsTerm ts (t_entry n es ty a)
IsSound ts (t_two k ty a b) = IsTerm ts a × IsTerm ts b
IsSound ts (t_three k ty a b c) = IsTerm ts a × IsTerm ts b × IsTerm ts c

-- the term is among those at places
pub record IsOperandReady (s : Stock) (order : List ℕ) (k : ℕ) : Type 0 where
  pub operation : IsOperation (at s k)
  pub there : Among (terms_at s order) (at s k)

-- a typed term, which is there where it is an operation
pub record IsArgReady (s : Stock) (order : List ℕ) (k : ℕ) : Type 0 where
  pub term : IsTermAt s k
  pub there : IsOperation (at s k) → Among (terms_at s order) (at s k)

-- an operation that is there, over at most 65536 tables
pub record IsOpReady (s : Stock) (order : List ℕ) (k : ℕ) : Type 0 where
  pub within : k < size s
  pub operand : IsOperandReady s order k
  pub targets : List Ty
  pub sound : IsSound targets (at s k)
  pub few : length s.tables ≤ 65536

abbrev pub AreOpsReady : Stock → List ℕ → Type 0
AreOpsReady s order = AllByRecursion (IsOpReady s order) order
