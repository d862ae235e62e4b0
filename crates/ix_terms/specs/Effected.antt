-- The terms of a behaviour's effect, at places of a store.
use Rattle.std.specs.Prelude.{◌≡◌, ℕ, ◌<◌, map}
use Rattle.std.specs.List.{AllByRecursion}
use Rattle.ix_mean.specs.Core.{Statement}
use Rattle.ix_mean.specs.Terms.{one_term, loads}
use Rattle.ix_mean.specs.Order.{load_root}
use Rattle.ix_mean.specs.Effects.{start, effect_terms}
use Rattle.ix_mean.specs.View.{frame_of}
use Rattle.ix_terms.specs.declared.source.Source.{Source}
use Rattle.ix_terms.specs.declared.effect.Effect.{Effect}
use Rattle.ix_terms.specs.declared.run.Ends.{Ends}
use Rattle.ix_terms.specs.Stores.{Stock, at, size, stock_of, Grows}
use Rattle.ix_terms.specs.Targets.{entry_at, IsBelow}
use Rattle.ix_terms.specs.Ends.{ends_at, IsEnds}

-- a store over the tables of a behaviour, with the path condition of its start at a place
pub record HasStart (f : Source) (s : Stock) (p : ℕ) : Type 0 where
  pub tables_are : s.tables ≡ f.tables
  pub within : p < size s
  pub is : at s p ≡ one_term

-- the state of the start, at places
pub record IsStarted (f : Source) (old new : Stock) (p : ℕ) (e : Ends) : Type 0 where
  pub grows : Grows old new
  pub path : at new p ≡ one_term
  pub is : ends_at new e.slots.items e.targets.items ≡ start (frame_of f.types)
  pub ends : IsEnds f new e.slots.items e.targets.items p

-- the store has the terms of the loads and of the targets of the effect of a statement, over the tables of the behaviour
pub record HasEffect (f : Source) (x : Statement) (e : Effect) : Type 0 where
  pub tables_are : (stock_of e.store).tables ≡ f.tables
  pub loads_below : AllByRecursion (λ k. k < size (stock_of e.store)) e.loads.items
  pub loads_are : map (at (stock_of e.store)) e.loads.items ≡ map load_root (loads one_term x (start (frame_of f.types)))
  pub targets_below : AllByRecursion (IsBelow (size (stock_of e.store))) e.targets.items
  pub targets_are : map (entry_at (stock_of e.store)) e.targets.items ≡ (effect_terms (frame_of f.types) x).targets
