use Rattle.std.proofs.Common.{◌≡◌, false, length, take}
use Rattle.ix_neteval.specs.Marked.{IsMarked}
use Rattle.ix_neteval.proofs.RunLemmas.{IsRunning}
use Rattle.ix_neteval.proofs.running.run_gates.Given as goal

abbrev pub invariant-loop-cell : goal.invariant-loop-cell
invariant-loop-cell l = record {
  running : IsRunning l.first l.gates l.order l.widths l.initial.values l.values l.cell-index;
  sizes : length l.marks ≡ length l.values;
  marked : l.anew ≡ false → IsMarked l.first l.gates l.widths (take l.cell-index l.order) l.marks l.values;
}
