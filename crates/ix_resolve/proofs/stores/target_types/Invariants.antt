use Rattle.std.proofs.Common.{◌≡◌, ◌++◌, ◌∷◌, drop, map}
use Rattle.ix_mean.specs.Core.{u32}
use Rattle.ix_behaviour.specs.Behaviours.{or_byte, type_of_register}
use Rattle.ix_resolve.proofs.stores.target_types.Given as goal

abbrev pub invariant-loop-register : goal.invariant-loop-register
invariant-loop-register l = l.targets ++ map type_of_register (drop l.register-index l.registers) ≡ or_byte l.fn.stored ∷ u32 ∷ u32 ∷ map type_of_register l.registers
