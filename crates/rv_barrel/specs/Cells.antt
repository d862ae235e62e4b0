-- What a hart keeps of its instructions, as the definition of its rows has them (this project's choice).
use Rattle.std.specs.Prelude.{◌≡◌, ℕ, suc, ◌+◌, List, [], ◌∷◌, Option, Some, None}
use Rattle.rv_harts.specs.Harts.{Fetched}
use Rattle.rv_lawful.specs.Settings.{Setting}
use Rattle.rv_harts.specs.HartRows.{writes_of, written_as}
use Rattle.rv_barrel.specs.declared.cell.InFlight.{InFlight}
use Rattle.rv_barrel.specs.declared.cell.Owed.{Owed}

abbrev pub Slots : Type 0
Slots = List (Option InFlight)

-- how many stand in these stages
abbrev pub count : Slots → ℕ
count [] = 0
count (None ∷ older) = count older
count (Some c ∷ older) = suc (count older)

-- what is fetched, with its place
abbrev pub fetched_at : ℕ → InFlight → Fetched
fetched_at place c = record { serial = c.serial; at = c.at; word = c.word; place = place }

-- what stands in these stages, the last stage last, where so many have retired
abbrev pub fetched_of : ℕ → Slots → List (Option Fetched)
fetched_of q [] = []
fetched_of q (None ∷ older) = None ∷ fetched_of q older
fetched_of q (Some c ∷ older) = Some (fetched_at (q + count older) c) ∷ fetched_of q older

-- what is asked of each is asked of its word
abbrev pub AreAsked : Setting → Slots → Type 0
AreAsked k [] = Unit
AreAsked k (None ∷ older) = AreAsked k older
AreAsked k (Some c ∷ older) = (c.asks ≡ k.asks c.word) × AreAsked k older

-- it is what this instruction owes
pub record IsOwed (k : Setting) (o : Owed) (c : Fetched) : Type 0 where
  pub serial : o.serial ≡ c.serial
  pub asks : o.asks ≡ k.asks c.word
  pub writes : writes_of k c ≡ Some (written_as o.serial o.writes)

-- these are what those owe, one by one
abbrev pub AreOwed : Setting → List Owed → List Fetched → Type 0
AreOwed k [] [] = Unit
AreOwed k [] (c ∷ cs) = ⊥
AreOwed k (o ∷ os) [] = ⊥
AreOwed k (o ∷ os) (c ∷ cs) = IsOwed k o c × AreOwed k os cs
