-- Where among the entries of units the one stands that writes (this project's choice).
use Rattle.std.specs.Prelude.{◌≡◌, ℕ, suc, ◌<◌, ◌≤◌, List, [], ◌∷◌, ◌++◌, length, take, drop, Option, Some, None, option_map, if◌then◌else◌, ◌==◌, slice_get}
use Rattle.rv_unit.specs.declared.entry.Entry.{Entry}
use Rattle.rv_unit.specs.Timed.{AreUnits, IsTimed, room}
use Rattle.rv_holds.specs.Tokens.{or_else}
use Rattle.rv_engine.specs.declared.owing.Owed.{Owed}
use Rattle.rv_engine.specs.Owing.{Outstanding, paying_among, unpaid_among}

-- where the oldest of these entries stands that is in the unit
abbrev pub oldest_place : ℕ → List Entry → Option ℕ
oldest_place u [] = None
oldest_place u (e ∷ older) = or_else (option_map (λ n. suc n) (oldest_place u older)) (if e.unit == u then Some 0 else None)

-- these without the one at the place
abbrev pub without_place : Option ℕ → List Owed → List Owed
without_place None owed = owed
without_place (Some n) owed = take n owed ++ drop (suc n) owed

-- what is owed at the place is written, and the others are not
pub record IsPaidAt (lasts : List ℕ) (all : List Entry) (n : ℕ) (owed : List Owed) : Type 0 where
  pub inside : n < length owed
  pub paid : slice_get owed n ≡ paying_among lasts all all owed
  pub others : without_place (Some n) owed ≡ unpaid_among lasts all all owed

-- nothing is written
pub record IsUnpaid (lasts : List ℕ) (all : List Entry) (owed : List Owed) : Type 0 where
  pub paid : paying_among lasts all all owed ≡ None
  pub others : owed ≡ unpaid_among lasts all all owed

-- where the entry stands that writes, if any does, whatever these entries owe
abbrev pub IsPayingPlace : List ℕ → List Entry → Option ℕ → Type 0
IsPayingPlace lasts all None = (owed : List Owed) → length owed ≡ length all → IsUnpaid lasts all owed
IsPayingPlace lasts all (Some n) = (owed : List Owed) → length owed ≡ length all → IsPaidAt lasts all n owed

-- each entry owes something, and there is room for what can stand in the units
pub record AreKept (o : Outstanding) (places : ℕ) : Type 0 where
  pub units : AreUnits o.stages o.lasts
  pub timed : IsTimed o.stages o.lasts o.entries
  pub each : length o.owed ≡ length o.entries
  pub capacity : room o.stages o.lasts ≤ places
