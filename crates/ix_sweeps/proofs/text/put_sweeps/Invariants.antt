use Rattle.std.proofs.Common.{◌≡◌, ◌++◌, take}
use Rattle.std.specs.List.{flat_map}
use Rattle.ix_sweeps.specs.SweepText.{swept_text}
use Rattle.ix_sweeps.proofs.text.put_sweeps.Given as goal

abbrev pub invariant-loop-swept : goal.invariant-loop-swept
invariant-loop-swept l = l.out.items ≡ l.initial.out.items ++ flat_map swept_text (take l.swept-index l.sweeps)
