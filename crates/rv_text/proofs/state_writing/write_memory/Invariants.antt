use Rattle.std.proofs.Common.{◌-◌, ◌≤◌, ◌++◌, ℕ, List}
use Rattle.rv_text.specs.RunText.{memory_lines}
use Rattle.rv_text.specs.Telling.{Carries}
use Rattle.rv_text.proofs.state_writing.write_memory.Given as goal

abbrev pub invariant-loop-word : goal.invariant-loop-word
invariant-loop-word g l = record {
  carries : (rest : List ℕ) → Carries (g.S.Sink.written l.fn.sink) l.fn.out (memory_lines l.memory 262144 0 ++ rest)
      (g.S.Sink.written l.sink) l.out (memory_lines l.memory (262144 - l.word) l.word ++ rest);
  never_fell : g.S.Sink.faults l.fn.sink ≤ g.S.Sink.faults l.sink;
}
