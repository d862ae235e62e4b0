-- The roots of a behaviour's graph at places of a store.
use Rattle.std.specs.Prelude.{◌≡◌, ℕ, ◌<◌, List, [], ◌∷◌, ◌++◌, map, if◌then◌else◌}
use Rattle.std.specs.List.{AllByRecursion}
use Rattle.ix_mean.specs.Core.{Statement}
use Rattle.ix_mean.specs.Terms.{Term, Entry, same_term, zero_term, one_term, loads}
use Rattle.ix_mean.specs.Order.{write_root, roots}
use Rattle.ix_mean.specs.Effects.{start, effect_terms}
use Rattle.ix_mean.specs.View.{frame_of}
use Rattle.ix_terms.specs.declared.source.Source.{Source}
use Rattle.ix_terms.specs.Stores.{Stock, at, size, Grows}

-- the store has grown, and has these terms at places behind others
pub record HasMore (old new : Stock) (r0 r1 : List ℕ) (us : List Term) : Type 0 where
  pub grows : Grows old new
  pub more : List ℕ
  pub whole : r1 ≡ r0 ++ more
  pub below : AllByRecursion (λ k. k < size new) more
  pub are : map (at new) more ≡ us

-- the write of a target, if it may be written
abbrev pub root_terms : ℕ → Entry → List Term
root_terms n e = if same_term e.condition zero_term then [] else write_root n e ∷ []

-- the store has the roots of a behaviour at places, over its tables
pub record HasRoots (f : Source) (x : Statement) (s : Stock) (rs : List ℕ) : Type 0 where
  pub tables_are : s.tables ≡ f.tables
  pub below : AllByRecursion (λ k. k < size s) rs
  pub are : map (at s) rs ≡ roots (loads one_term x (start (frame_of f.types))) (effect_terms (frame_of f.types) x).targets
