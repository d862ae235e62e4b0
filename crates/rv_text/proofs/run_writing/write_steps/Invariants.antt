use Rattle.std.proofs.Common.{◌-◌, ◌≤◌}
use Rattle.ix_extension.specs.Extensions.{view_extension}
use Rattle.ix_eval.specs.Scratches.{IsScratchOf}
use Rattle.rv_seq.specs.WordEffects.{AreWide}
use Rattle.rv_text.specs.RunText.{lines_from}
use Rattle.rv_text.specs.Telling.{Carries}
use Rattle.rv_text.proofs.run_writing.write_steps.Given as goal

abbrev pub invariant-loop-number : goal.invariant-loop-number
invariant-loop-number g l = record {
  wide : AreWide (view_extension l.ext) l.arch.custom;
  scratch : IsScratchOf (view_extension l.ext) l.scratch;
  carries : Carries (g.S.Sink.written l.fn.sink) l.fn.out (lines_from (view_extension l.ext) l.image l.steps 0 l.fn.arch)
      (g.S.Sink.written l.sink) l.out (lines_from (view_extension l.ext) l.image (l.steps - l.number) l.number l.arch);
  never_fell : g.S.Sink.faults l.fn.sink ≤ g.S.Sink.faults l.sink;
}
