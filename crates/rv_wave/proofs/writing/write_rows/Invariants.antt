use Rattle.std.proofs.Common.{◌≡◌, ◌+◌, ℕ, List, [], Option, None, length}
use Rattle.rv_trace.specs.Trace.{newest}
use Rattle.rv_machine.specs.Running.{AreRows}
use Rattle.rv_ports.specs.Driven.{ports_of}
use Rattle.rv_wave.specs.Sent.{IsSent}
use Rattle.rv_wave.proofs.writing.write_rows.Given as goal

abbrev pub invariant-rows : goal.invariant-rows
invariant-rows g l = record {
  goes_on : (newest l.machine.rows).stop ≡ None;
  count : length l.machine.rows ≡ l.number;
  spare : l.number + l.machine.spare ≡ l.cycles;
  setting : l.machine.setting ≡ l.fn.machine.setting;
  are_rows : AreRows l.machine.setting l.machine.rows;
  before : length l.before ≡ length (ports_of l.fn.machine.setting.design.nets);
  now : length l.now ≡ length (ports_of l.fn.machine.setting.design.nets);
  sent : (first : Option (List ℕ)) (faults : ℕ) → IsSent l.headed l.fn.machine.setting [] l.fn.machine.modules l.fn.before first (g.S.Sink.written l.fn.sink) l.fn.out faults (g.S.Sink.faults l.fn.sink)
      → IsSent l.going l.machine.setting l.machine.rows l.machine.modules l.before first (g.S.Sink.written l.sink) l.out faults (g.S.Sink.faults l.sink);
}
