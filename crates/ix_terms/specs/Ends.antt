-- States of terms by their places.
use Rattle.std.specs.Prelude.{◌≡◌, ℕ, ◌<◌, ◌++◌, List, length, map}
use Rattle.std.specs.List.{AllByRecursion}
use Rattle.ix_mean.specs.Core.{u1, Expression, Statement, st_skip, st_if}
use Rattle.ix_mean.specs.Terms.{Term, Terms, Load, loads, run_terms, along, make_one, test_term, merge_terms}
use Rattle.ix_graph.specs.declared.kind.Kind.TheVariants.{Lnot}
use Rattle.ix_terms.specs.declared.branch.Paths.{Paths}
use Rattle.ix_mean.specs.Typing.{IsTypedStatement, IsOf, AreEntries}
use Rattle.ix_mean.specs.View.{frame_of}
use Rattle.ix_terms.specs.declared.source.Source.{Source}
use Rattle.ix_terms.specs.declared.targets.Target.{Target}
use Rattle.ix_terms.specs.Stores.{Stock, at, size, Grows, Has}
use Rattle.ix_terms.specs.Places.{IsTermAt, IsPlaced, HasLoads}
use Rattle.ix_terms.specs.Targets.{entry_at, IsBelow}

-- the state of terms at places
abbrev pub ends_at : Stock → List ℕ → List Target → Terms
ends_at ts slots targets = record { slots = map (at ts) slots; targets = map (entry_at ts) targets }

-- slots, targets and a path condition stand at places, with terms of the frame's types
pub record IsEnds (f : Source) (ts : Stock) (slots : List ℕ) (targets : List Target) (p : ℕ) : Type 0 where
  pub placed : IsPlaced f ts slots p
  pub below : AllByRecursion (IsBelow (size ts)) targets
  pub entries : AreEntries f.types.targets f.types.targets (map (entry_at ts) targets)
  pub count : length targets ≡ length f.types.targets

-- the store has grown, and has a state at places
pub record HasEnds (f : Source) (old new : Stock) (p : ℕ) (t : Terms) (slots : List ℕ) (targets : List Target) : Type 0 where
  pub grows : Grows old new
  pub is : ends_at new slots targets ≡ t
  pub ends : IsEnds f new slots targets p

-- a block: what is left does from here what all does from the start, and its loads stand behind those of what was done
pub record IsDoing (f : Source) (old now : Stock) (p : ℕ) (slots made : List ℕ) (targets put : List Target) (l0 l1 : List ℕ) (x rest : Statement) : Type 0 where
  pub grows : Grows old now
  pub ends : IsEnds f now made put p
  pub typed : IsTypedStatement (frame_of f.types) rest
  pub same : run_terms (at old p) rest (ends_at now made put) ≡ run_terms (at old p) x (ends_at old slots targets)
  pub done : List Load
  pub has_loads : HasLoads now l0 l1 done
  pub same_loads : done ++ loads (at old p) rest (ends_at now made put) ≡ loads (at old p) x (ends_at old slots targets)

-- a condition at a place
pub record IsTest (f : Source) (ts : Stock) (t : ℕ) : Type 0 where
  pub within : t < size ts
  pub test : IsOf f.types.targets u1 (at ts t)

-- the paths of the branches of a test, and a state that stands on both
pub record HasPaths (f : Source) (old new : Stock) (slots : List ℕ) (targets : List Target) (p t : ℕ) (b : Paths) : Type 0 where
  pub grows : Grows old new
  pub first : at new b.first ≡ along (at old p) (at old t)
  pub second : at new b.second ≡ along (at old p) (make_one Lnot u1 (at old t))
  pub on_first : IsEnds f new slots targets b.first
  pub on_second : IsEnds f new slots targets b.second
  pub still : IsEnds f new slots targets p
  pub test : IsTest f new t

-- a copy of a state went on along one path, and the state stands where it was on another
pub record HasBeside (f : Source) (old new : Stock) (slots : List ℕ) (targets : List Target) (q : ℕ) (p : ℕ) (t : Terms) (made : List ℕ) (put : List Target) : Type 0 where
  pub has : HasEnds f old new p t made put
  pub still : IsEnds f new slots targets q

-- a state by its own places
pub record IsCopy (slots : List ℕ) (targets : List Target) (made : List ℕ) (put : List Target) : Type 0 where
  pub slots_are : made ≡ slots
  pub targets_are : put ≡ targets

-- the condition of an `if` at a place, and the state stands
pub record HasTest (f : Source) (old new : Stock) (slots : List ℕ) (targets : List Target) (p : ℕ) (c : Expression) (t : ℕ) : Type 0 where
  pub has : Has old new t (test_term (map (at old) slots) (at old p) c)
  pub ends : IsEnds f new slots targets p
  pub test : IsTest f new t
  pub term : IsTermAt new t

-- both ends of an `if`, merged
pub record HasMerged (old new : Stock) (s : Terms) (made : List ℕ) (put : List Target) : Type 0 where
  pub grows : Grows old new
  pub below : AllByRecursion (λ k. k < size new) made
  pub targets_below : AllByRecursion (IsBelow (size new)) put
  pub is : ends_at new made put ≡ s

-- both branches of a test that is no constant
abbrev pub both_ends : Term → Term → Statement → Statement → Terms → Terms
both_ends p t x y s = merge_terms t (run_terms (along p t) x s) (run_terms (along p (make_one Lnot u1 t)) y s)

-- the loads of both branches of a test that is no constant
abbrev pub both_loads : Term → Term → Statement → Statement → Terms → List Load
both_loads p t x y s = loads (along p t) x s ++ loads (along p (make_one Lnot u1 t)) y s

-- the branches of an `if`
abbrev pub first_of : Statement → Statement
first_of (st_if c x y) = x
first_of _ = st_skip

abbrev pub second_of : Statement → Statement
second_of (st_if c x y) = y
second_of _ = st_skip
