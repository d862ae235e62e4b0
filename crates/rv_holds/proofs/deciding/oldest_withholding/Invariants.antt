use Rattle.std.proofs.Common.{◌≡◌, ◌+◌, drop}
use Rattle.rv_holds.specs.Tokens.{or_else}
use Rattle.rv_holds.specs.Holds.{withholder}
use Rattle.rv_holds.proofs.deciding.oldest_withholding.Given as goal

abbrev pub invariant-loop-further : goal.invariant-loop-further
invariant-loop-further l = withholder l.shape l.r l.stage l.older ≡ or_else (withholder l.shape l.r (l.stage + l.further) (drop l.further l.older)) l.found
