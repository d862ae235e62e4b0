use Rattle.std.proofs.Common.{◌≡◌, drop}
use Rattle.rv_owing.specs.Kept.{are_all}
use Rattle.rv_owing.proofs.listed.are_all.Given as goal

abbrev pub invariant-loop-one : goal.invariant-loop-one
invariant-loop-one l = are_all l.written l.owed ≡ are_all l.written (drop l.one-index l.owed)
