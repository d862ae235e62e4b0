-- Targets by the places of their terms.
use Rattle.std.specs.Prelude.{◌≡◌, ℕ, ◌<◌, List, map, Bool, if◌then◌else◌}
use Rattle.std.specs.List.{AllByRecursion}
use Rattle.ix_mean.specs.Terms.{Term, Entry, merge}
use Rattle.ix_terms.specs.declared.targets.Target.{Target}
use Rattle.ix_terms.specs.Stores.{Stock, at, size, Grows}
use Rattle.ix_terms.specs.Places.{IsTermAt}

-- the entry of a target at places
abbrev pub entry_at : Stock → Target → Entry
entry_at ts t = record { condition = at ts t.condition; value = at ts t.value; address = at ts t.address }

-- terms of a target at places
pub record IsTargetAt (ts : Stock) (t : Target) : Type 0 where
  pub condition : IsTermAt ts t.condition
  pub value : IsTermAt ts t.value
  pub address : IsTermAt ts t.address

-- the places of a target stand below a count
pub record IsBelow (n : ℕ) (t : Target) : Type 0 where
  pub condition : t.condition < n
  pub value : t.value < n
  pub address : t.address < n

-- the store has grown, and has the terms of an entry at places
pub record HasEntry (old new : Stock) (t : Target) (e : Entry) : Type 0 where
  pub grows : Grows old new
  pub below : IsBelow (size new) t
  pub is : entry_at new t ≡ e

-- the value of one whose condition is 0 gives way
abbrev pub given : Bool → Bool → Term → Term → Term → Term
given none_first none_second c x y = if none_first then y else if none_second then x else merge c x y

-- the store has grown, and has the terms of entries at places
pub record HasTargets (old new : Stock) (ts : List Target) (es : List Entry) : Type 0 where
  pub grows : Grows old new
  pub below : AllByRecursion (IsBelow (size new)) ts
  pub are : map (entry_at new) ts ≡ es
