use Rattle.std.proofs.Common.{take}
use Rattle.ix_lines.specs.Readings.{texts}
use Rattle.ix_cert.proofs.Viable.{Reached}
use Rattle.ix_cert.proofs.read.read_lines.Given as goal

abbrev pub invariant-loop-i : goal.invariant-loop-i
invariant-loop-i l = record {
  reached : Reached (take l.i (texts l.lines)) l.reading;
}
