-- What the oldest token of those ahead is looked for by (this project's choice).
use Rattle.std.specs.Prelude.{◌<◌, List, [], ◌∷◌, Some, None, Bool, false, ◌||◌, is_some}
use Rattle.rv_asks.specs.declared.asks.Asks.{Asks}
use Rattle.rv_holds.specs.declared.asked.Asked.{Asked}
use Rattle.rv_holds.specs.declared.asked.Asked.TheVariants.{Spawner, LateWriter, Store, Late}
use Rattle.rv_holds.specs.declared.token.Token.{Token}
use Rattle.rv_holds.specs.Tokens.{Slots}
use Rattle.rv_holds.specs.Holds.{spawns_at, writes_late, does_store, is_late}

-- is a token one that is looked for?
abbrev pub meets : Asked → Token → Bool
meets (Spawner number) = spawns_at number
meets (LateWriter register) = writes_late register
meets Store = does_store
meets Late = is_late

-- a register that is looked for is one by its number: of 48, or of 16 custom ones
abbrev pub IsAskable : Asked → Type 0
IsAskable (Spawner number) = number < 48
IsAskable (LateWriter register) = register < 16
IsAskable Store = Unit {0}
IsAskable Late = Unit {0}

-- is one of these flags set?
abbrev pub is_any : List Bool → Bool
is_any [] = false
is_any (flag ∷ flags) = flag || is_any flags

-- does the `spawn` body of an instruction write a register?
abbrev pub has_targets : Asks → Bool
has_targets a = is_some a.spawned || is_any a.spawned_customs

-- does that of one of these tokens?
abbrev pub is_spawned : Slots → Bool
is_spawned [] = false
is_spawned (None ∷ older) = is_spawned older
is_spawned (Some t ∷ older) = has_targets t.asks || is_spawned older
