-- For each target whether a spawned body writes it (this project's choice of numbers of targets).
use Rattle.std.specs.Prelude.{ℕ, List, [], ◌∷◌, map, set, Bool, true, false}
use Rattle.ix_bits.specs.declared.number.Ty.{Ty}
use Rattle.ix_extension.specs.Extensions.{ExtensionTree}
use Rattle.ix_behaviour.specs.declared.which.Which.{Which}
use Rattle.ix_behaviour.specs.Behaviours.{targets_at, spawned_at}

abbrev pub unmarked : Ty → Bool
unmarked ty = false

-- the flags at these places are true
abbrev pub marked : List Bool → List ℕ → List Bool
marked fs [] = fs
marked fs (t ∷ ts) = marked (set fs t true) ts

abbrev pub flags_at : ExtensionTree → Which → List Bool
flags_at x w = marked (map unmarked (targets_at x w)) (spawned_at x w)
