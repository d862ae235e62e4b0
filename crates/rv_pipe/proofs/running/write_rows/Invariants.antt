use Rattle.std.proofs.Common.{◌≡◌, ◌-◌, ◌≤◌}
use Rattle.rv_text.specs.Telling.{Carries}
use Rattle.rv_engine.specs.Settings.{first_machine}
use Rattle.rv_pipe.specs.Texts.{text_from}
use Rattle.rv_pipe.proofs.running.write_rows.Given as goal

abbrev pub invariant-loop-number : goal.invariant-loop-number
invariant-loop-number g l = record {
  setting : l.pipeline.setting ≡ l.fn.pipeline.setting;
  made : l.pipeline.machine.rows ≡ l.number;
  carries : Carries (g.S.Sink.written l.fn.sink) l.fn.out (text_from l.fn.pipeline.setting l.cycles (first_machine l.fn.pipeline.setting))
      (g.S.Sink.written l.sink) l.out (text_from l.fn.pipeline.setting (l.cycles - l.number) l.pipeline.machine);
  never_fell : g.S.Sink.faults l.fn.sink ≤ g.S.Sink.faults l.sink;
}
