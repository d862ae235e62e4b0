use Rattle.std.proofs.Common.{◌≡◌, drop}
use Rattle.rv_trace.specs.Trace.{has_serial}
use Rattle.rv_past.proofs.filing.is_among.Given as goal

abbrev pub invariant-loop-one : goal.invariant-loop-one
invariant-loop-one l = has_serial l.flushed l.serial ≡ has_serial (drop l.one-index l.flushed) l.serial
