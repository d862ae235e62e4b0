use Rattle.std.proofs.Common.{◌≡◌, take, true}
use Rattle.std.specs.List.{list_all}
use Rattle.ix_vread.specs.Fronts.{belongs_to}
use Rattle.ix_vread.proofs.scan.run.Given as goal

abbrev pub invariant-loop-i : goal.invariant-loop-i
invariant-loop-i l = list_all (belongs_to l.class) (take l.i l.bytes) ≡ true
