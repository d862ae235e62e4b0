use Rattle.std.proofs.Common.{◌≡◌, map, take}
use Rattle.ix_net.specs.declared.tables.Signal.{Signal}
use Rattle.ix_net.proofs.tables.widths_of.Given as goal

abbrev pub invariant-loop-signal : goal.invariant-loop-signal
invariant-loop-signal l = l.widths.items ≡ map (λ (s : Signal). s.width) (take l.signal-index l.signals)
