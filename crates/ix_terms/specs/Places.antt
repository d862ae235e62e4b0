-- Terms of a store by their places.
use Rattle.std.specs.Prelude.{◌≡◌, ℕ, ◌<◌, ◌++◌, List, length, map, Bool, if◌then◌else◌}
use Rattle.std.specs.List.{AllByRecursion}
use Rattle.ix_mean.specs.Core.{u1, Expression, type_of_expression}
use Rattle.ix_bits.specs.declared.number.Ty.{Ty}
use Rattle.ix_mean.specs.Terms.{Term, t_const, type_of, term, cast_to, zero_term, one_term, Load}
use Rattle.ix_mean.specs.Order.{load_root}
use Rattle.ix_mean.specs.Typing.{IsTerm, IsOf, AreOf}
use Rattle.ix_terms.specs.declared.source.Source.{Source}
use Rattle.ix_terms.specs.Stores.{Stock, at, size, Grows, Has}

-- a term that is no constant
abbrev pub IsOperation : Term → Type 0
IsOperation (t_const ty raw) = ⊥
IsOperation t = Unit {0}

-- the store has a term at the place, of types that go together
pub record IsTermAt (ts : Stock) (k : ℕ) : Type 0 where
  pub within : k < size ts
  pub targets : List Ty
  pub typed : IsTerm targets (at ts k)

-- the places of the slots and of the path condition, with terms of the types of a behaviour there, over its tables
pub record IsPlaced (f : Source) (ts : Stock) (slots : List ℕ) (p : ℕ) : Type 0 where
  pub tables_are : ts.tables ≡ f.tables
  pub below : AllByRecursion (λ k. k < size ts) slots
  pub path_below : p < size ts
  pub slots_are : AreOf f.types.targets f.types.slots (map (at ts) slots)
  pub path : IsOf f.types.targets u1 (at ts p)
  pub count : length slots ≡ length f.types.slots

-- a term of a type at a place
pub record IsMade (ts : Stock) (k : ℕ) (ty : Ty) : Type 0 where
  pub term : IsTermAt ts k
  pub ty_is : type_of (at ts k) ≡ ty

-- the store has grown, and has the expression's term at a place, of its type; the slots and the path stand where they were
pub record HasTerm (f : Source) (old new : Stock) (slots : List ℕ) (p : ℕ) (e : Expression) (k : ℕ) : Type 0 where
  pub has : Has old new k (term (map (at old) slots) (at old p) e)
  pub made : IsMade new k (type_of_expression e)
  pub placed : IsPlaced f new slots p

-- the constant of a condition
abbrev pub bit_term : Bool → Term
bit_term b = if b then one_term else zero_term

-- terms at places, of types that go together
abbrev pub AreTermsAt : Stock → List ℕ → Type 0
AreTermsAt ts ks = AllByRecursion (IsTermAt ts) ks

-- the store has grown, and has these terms at places
pub record HasAll (old new : Stock) (ks : List ℕ) (xs : List Term) : Type 0 where
  pub grows : Grows old new
  pub below : AllByRecursion (λ k. k < size new) ks
  pub are : map (at new) ks ≡ xs

-- the same of an expression's value in a type
pub record HasValue (f : Source) (old new : Stock) (slots : List ℕ) (p : ℕ) (ty : Ty) (e : Expression) (k : ℕ) : Type 0 where
  pub has : Has old new k (cast_to ty (term (map (at old) slots) (at old p) e))
  pub placed : IsPlaced f new slots p

-- the places of loads' terms behind others
pub record HasLoads (new : Stock) (l0 l1 : List ℕ) (us : List Load) : Type 0 where
  pub more : List ℕ
  pub whole : l1 ≡ l0 ++ more
  pub below : AllByRecursion (λ k. k < size new) more
  pub are : map (at new) more ≡ map load_root us
