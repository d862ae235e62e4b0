use Rattle.std.proofs.Common.{length}
use Rattle.ix_tool.proofs.turning.+first_tight_in.Given as goal

abbrev pub decreases-first_tight_in : goal.decreases-first_tight_in
decreases-first_tight_in l = length l.behaviours.now
