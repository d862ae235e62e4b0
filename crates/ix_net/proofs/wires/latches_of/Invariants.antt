use Rattle.std.proofs.Common.{◌≡◌, map, take}
use Rattle.ix_net.specs.Wiring.{latch_of, EnablesFit, SourcesFit}
use Rattle.ix_net.proofs.wires.latches_of.Given as goal

abbrev pub invariant-loop-bank : goal.invariant-loop-bank
invariant-loop-bank l = record {
  enables : EnablesFit l.table (take l.bank-index l.banks);
  sources : SourcesFit l.table (take l.bank-index l.banks);
  made : l.latches.items ≡ map (latch_of l.table) (take l.bank-index l.banks);
}
