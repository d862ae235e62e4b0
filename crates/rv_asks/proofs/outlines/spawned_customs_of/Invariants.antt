use Rattle.std.proofs.Common.{◌≡◌, ◌<◌, ℕ, length, get_or, false}
use Rattle.std.specs.List.{list_any}
use Rattle.rv_asks.specs.Acts.{spawns_custom}
use Rattle.rv_asks.proofs.outlines.spawned_customs_of.Given as goal

abbrev pub invariant-loop-r : goal.invariant-loop-r
invariant-loop-r l = (length l.customs ≡ 16) × ((r : ℕ) → r < l.r → get_or l.customs r false ≡ list_any (spawns_custom r) l.own)
