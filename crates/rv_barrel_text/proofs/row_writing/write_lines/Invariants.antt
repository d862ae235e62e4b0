use Rattle.std.proofs.Common.{ℕ, List, ◌++◌, ◌≤◌, drop}
use Rattle.rv_text.specs.Telling.{Carries}
use Rattle.rv_barrel_text.specs.BarrelRowText.{lines_text, of_each}
use Rattle.rv_barrel_text.proofs.row_writing.write_lines.Given as goal

abbrev pub invariant-loop-hart : goal.invariant-loop-hart
invariant-loop-hart g l = record {
  carries : (rest : List ℕ) → Carries (g.S.Sink.written l.fn.sink) l.fn.out (of_each lines_text 0 l.parts ++ rest)
      (g.S.Sink.written l.sink) l.out (of_each lines_text l.hart (drop l.hart l.parts) ++ rest);
  never_fell : g.S.Sink.faults l.fn.sink ≤ g.S.Sink.faults l.sink;
}
