use Rattle.std.proofs.Common.{◌≡◌, ◌-◌, ◌≤◌}
use Rattle.rv_text.specs.Telling.{Carries}
use Rattle.rv_barrel_text.proofs.Rows.{text_from}
use Rattle.ix_tool.proofs.turning.write_rows.Given as goal

abbrev pub invariant-loop-number : goal.invariant-loop-number
invariant-loop-number g l = record {
  design : l.barrel.design ≡ l.fn.barrel.design;
  images : (l.barrel.first ≡ l.fn.barrel.first) × (l.barrel.second ≡ l.fn.barrel.second);
  made : l.barrel.made ≡ l.number;
  spare : l.barrel.cycles ≡ l.cycles;
  carries : Carries (g.S.Sink.written l.fn.sink) l.fn.out (text_from l.fn.barrel.design l.fn.barrel.first l.fn.barrel.second l.cycles 0)
      (g.S.Sink.written l.sink) l.out (text_from l.fn.barrel.design l.fn.barrel.first l.fn.barrel.second (l.cycles - l.number) l.number);
  never_fell : g.S.Sink.faults l.fn.sink ≤ g.S.Sink.faults l.sink;
}
