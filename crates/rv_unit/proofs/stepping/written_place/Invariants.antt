use Rattle.rv_unit.proofs.Cycling.{IsSought}
use Rattle.rv_unit.proofs.stepping.written_place.Given as goal

abbrev pub invariant-loop-at : goal.invariant-loop-at
invariant-loop-at l = IsSought l.lasts l.entries l.at
