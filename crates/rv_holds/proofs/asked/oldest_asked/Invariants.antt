use Rattle.std.proofs.Common.{◌≡◌, drop}
use Rattle.rv_holds.specs.Tokens.{or_else}
use Rattle.rv_holds.specs.Holds.{oldest}
use Rattle.rv_holds.specs.Meets.{meets}
use Rattle.rv_holds.proofs.asked.oldest_asked.Given as goal

abbrev pub invariant-loop-slot : goal.invariant-loop-slot
invariant-loop-slot l = oldest (meets l.asked) l.older ≡ or_else (oldest (meets l.asked) (drop l.slot-index l.older)) l.found
