use Rattle.std.proofs.Common.{◌≡◌, drop}
use Rattle.std.specs.Option.{option_or}
use Rattle.rv_holdings.specs.Expected.{oldest}
use Rattle.rv_holdings.proofs.search.oldest.Given as goal

abbrev pub invariant-loop-stage : goal.invariant-loop-stage
invariant-loop-stage l = oldest l.shape l.row l.want 0 l.older ≡ option_or (oldest l.shape l.row l.want l.stage (drop l.stage l.older)) l.found
