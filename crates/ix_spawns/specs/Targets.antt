-- What a `spawn` body writes: registers alone, and neither memory nor the pc (CoreDSL 2, spawn; that both are refused there is this project's choice).
use Rattle.std.specs.Prelude.{◌≢◌, ℕ, List, [], ◌∷◌}
use Rattle.ix_tree.specs.TypedTrees.{TypedTextTree}
use Rattle.ix_extension.specs.Extensions.{ExtensionTree}
use Rattle.ix_extension.specs.WellFormed.{IsOf}
use Rattle.ix_behaviour.specs.declared.which.Which.{Which}
use Rattle.ix_behaviour.specs.Behaviours.{HasBehaviour, spawned_at}

-- none of these targets is memory or the pc
abbrev pub AreRegisters : List ℕ → Type 0
AreRegisters [] = Unit {0}
AreRegisters (n ∷ ns) = ((n ≢ 0) × (n ≢ 2)) × AreRegisters ns

-- each target of a behaviour's `spawn` bodies is a register
abbrev pub RegistersLaw : Type 0
RegistersLaw = (t : TypedTextTree) (x : ExtensionTree) (w : Which) → IsOf t x → HasBehaviour x w → AreRegisters (spawned_at x w)
