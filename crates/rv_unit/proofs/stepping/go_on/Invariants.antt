use Rattle.std.proofs.Common.{◌≡◌, ◌++◌, map, take, drop}
use Rattle.rv_unit.specs.Surveys.{moved_by}
use Rattle.rv_unit.proofs.stepping.go_on.Given as goal

abbrev pub invariant-loop-entry : goal.invariant-loop-entry
invariant-loop-entry l = l.entries ≡ map (moved_by l.found) (take l.entry-index l.initial.entries) ++ drop l.entry-index l.initial.entries
