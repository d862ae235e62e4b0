-- Operations by their places in a store, each once and behind its arguments (this project's choice of the order).
use Rattle.std.specs.Prelude.{◌≡◌, ℕ, ◌<◌, ◌≤◌, List, [], ◌∷◌, ◌++◌, length, map, Result, Ok, Err}
use Rattle.std.specs.List.{AllByRecursion}
use Rattle.ix_mean.specs.Terms.{Term, t_const, t_read, t_one, t_entry, t_two, t_three}
use Rattle.ix_mean.specs.Order.{postorder, add_all, IsClosed}
use Rattle.ix_flow.specs.declared.error.FlowErr.{FlowErr}
use Rattle.ix_flow.specs.declared.error.FlowErr.TheVariants.{TooManyOps, Memory}
use Rattle.ix_terms.specs.Stores.{Stock, at, size}

-- the terms at places
abbrev pub terms_at : Stock → List ℕ → List Term
terms_at ts ks = map (at ts) ks

-- places of a store, each with its subterms, and not too many
pub record IsOrder (ts : Stock) (ks : List ℕ) : Type 0 where
  pub below : AllByRecursion (λ k. k < size ts) ks
  pub closed : IsClosed (terms_at ts ks)
  pub few : length ks ≤ 256

-- the terms of us were put behind those before, each once
pub record HasPut (ts : Stock) (old new : List ℕ) (us : List Term) : Type 0 where
  pub terms : terms_at ts new ≡ add_all (terms_at ts old) us
  pub below : AllByRecursion (λ k. k < size ts) new
  pub few : length new ≤ 256

-- and each stands with its subterms
pub record HasVisited (ts : Stock) (old new : List ℕ) (us : List Term) : Type 0 where
  pub terms : terms_at ts new ≡ add_all (terms_at ts old) us
  pub order : IsOrder ts new

-- what comes of putting the terms of us behind others
abbrev pub Comes : Type 0 → Stock → List ℕ → List Term → Result (Unit {0}) FlowErr → Type 0
Comes P ts old us (Ok x) = P
Comes P ts old us (Err TooManyOps) = 256 < length (add_all (terms_at ts old) us)
Comes P ts old us (Err Memory) = Unit {0}

abbrev pub Puts : Stock → List ℕ → List ℕ → List Term → Result (Unit {0}) FlowErr → Type 0
Puts ts old new us r = Comes (HasPut ts old new us) ts old us r

abbrev pub Visits : Stock → List ℕ → List ℕ → List Term → Result (Unit {0}) FlowErr → Type 0
Visits ts old new us r = Comes (HasVisited ts old new us) ts old us r

-- the subterms of a term's arguments
abbrev pub below_term : Term → List Term
below_term (t_const ty raw) = []
below_term (t_read k ty) = []
below_term (t_one k ty a) = postorder a
below_term (t_entry n es ty a) = postorder a
below_term (t_two k ty a b) = postorder a ++ postorder b
below_term (t_three k ty a b c) = postorder a ++ postorder b ++ postorder c

-- the term alone, where it is no constant
abbrev pub itself : Term → List Term
itself (t_const ty raw) = []
itself t = t ∷ []
