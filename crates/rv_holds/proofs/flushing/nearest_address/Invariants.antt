use Rattle.std.proofs.Common.{◌≡◌, drop}
use Rattle.rv_holds.specs.Flushing.{nearest}
use Rattle.rv_holds.proofs.flushing.nearest_address.Given as goal

abbrev pub invariant-loop-slot : goal.invariant-loop-slot
invariant-loop-slot l = nearest l.address (drop l.slot-index l.younger) ≡ nearest l.fn.fetch l.younger
