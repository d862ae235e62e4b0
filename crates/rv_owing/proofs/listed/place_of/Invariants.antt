use Rattle.std.proofs.Common.{◌≡◌, drop}
use Rattle.rv_owing.specs.Kept.{place_from}
use Rattle.rv_owing.proofs.listed.place_of.Given as goal

abbrev pub invariant-loop-at : goal.invariant-loop-at
invariant-loop-at l = place_from 0 l.serial l.owed ≡ place_from l.at l.serial (drop l.at l.owed)
