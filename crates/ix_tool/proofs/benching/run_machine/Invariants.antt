use Rattle.std.proofs.Common.{◌≡◌, ◌+◌, length, None}
use Rattle.rv_trace.specs.Trace.{newest}
use Rattle.ix_tool.specs.CommandOutput.{most_rows}
use Rattle.ix_tool.proofs.benching.run_machine.Given as goal

abbrev pub invariant-rows : goal.invariant-rows
invariant-rows l = record {
  going : (newest l.machine.rows).stop ≡ None;
  count : length l.machine.rows ≡ l.counter;
  spare : l.counter + l.machine.spare ≡ most_rows;
  setting : l.machine.setting ≡ l.fn.machine.setting;
}
