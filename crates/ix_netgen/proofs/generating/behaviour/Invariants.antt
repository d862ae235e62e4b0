use Rattle.ix_netgen.specs.KeptWires.{timetable_of, IsBegun}
use Rattle.ix_netgen.proofs.generating.behaviour.Given as goal

abbrev pub invariant-loop-number : goal.invariant-loop-number
invariant-loop-number l = IsBegun (timetable_of l.shape l.graph l.times) l.last l.number l.initial.net l.net l.kept.items
