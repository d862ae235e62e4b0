use Rattle.std.proofs.Common.{◌≡◌, drop}
use Rattle.rv_holdings.specs.Expected.{first_owed}
use Rattle.rv_holdings.proofs.search.first_owed.Given as goal

abbrev pub invariant-loop-other : goal.invariant-loop-other
invariant-loop-other l = first_owed l.row l.number l.owed ≡ first_owed l.row l.number (drop l.other-index l.owed)
