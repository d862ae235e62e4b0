use Rattle.std.proofs.Common.{All, take}
use Rattle.ix_net.specs.Name.{IsName}
use Rattle.ix_net.specs.Valid.{IsWidth}
use Rattle.ix_net.proofs.tables.are_named.Given as goal

abbrev pub invariant-loop-signal : goal.invariant-loop-signal
invariant-loop-signal l = All (λ s. IsName s.name.now × IsWidth s.width) (take l.signal-index l.signals)
