-- What is kept of the visible locals: a list of them, the oldest first, with what each name stood for before, and a map.
use Rattle.std.specs.Prelude.{◌≡◌, ℕ, List, [], ◌∷◌, ◌++◌, length, Option, option_map, String}
use Rattle.std.specs.BTreeMap.{BTreeMap, get_by_text}
use Rattle.ix_bits.specs.declared.number.Ty.{Ty}
use Rattle.ix_mean.specs.Resolving.{Slot, slot_in}
use Rattle.ix_mean.specs.ResolvingStatements.{Scope}
use Rattle.ix_slots.specs.declared.locals.Local.{Local}
use Rattle.ix_slots.specs.declared.locals.Place.{Place}

abbrev pub slot_of : Local → Slot
slot_of x = record { name = x.name; ty = x.place.ty; slot = x.place.slot }

-- the newest first
abbrev pub newest_first : List Local → List Slot
newest_first [] = []
newest_first (x ∷ xs) = newest_first xs ++ slot_of x ∷ []

abbrev pub scope_of : List Local → List Ty → Scope
scope_of items slots = record { locals = newest_first items; slots = slots }

abbrev pub place_of : Slot → Place
place_of l = record { ty = l.ty; slot = l.slot }

-- the type and the slot of a name
abbrev pub place_at : List Slot → List ℕ → Option Place
place_at ls n = option_map place_of (slot_in ls n)

-- one more local, with the next slot
abbrev pub with_local : Scope → List ℕ → Ty → Scope
with_local sc n ty = record { locals = record { name = n; ty = ty; slot = length sc.slots } ∷ sc.locals; slots = sc.slots ++ ty ∷ [] }

-- what each name stood for before its declaration, where these are declared before all
abbrev pub places_before : List Local → List Local → List (Option Place)
places_before front [] = []
places_before front (x ∷ xs) = place_at (newest_first front) x.name ∷ places_before (front ++ x ∷ []) xs

pub record IsKept {Y : Type 0} (items : List Local) (before : List (Option Place)) (places : BTreeMap (String Y) Place) : Type 0 where
  pub found : (n : List ℕ) → get_by_text places n ≡ place_at (newest_first items) n
  pub undone : before ≡ places_before [] items
