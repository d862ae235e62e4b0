use Rattle.ix_vread.specs.Searches.{AreKnown}
use Rattle.ix_vread.proofs.search.look_at_all.Given as goal

abbrev pub invariant-loop-place : goal.invariant-loop-place
invariant-loop-place l = AreKnown l.readers l.order l.place l.marks
