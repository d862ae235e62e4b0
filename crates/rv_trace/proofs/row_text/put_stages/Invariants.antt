use Rattle.std.proofs.Common.{◌≡◌, ◌≤◌, ◌+◌, ◌*◌, ◌++◌, drop, length}
use Rattle.std.specs.List.{flat_map}
use Rattle.rv_trace.specs.TraceText.{stage_text}
use Rattle.rv_trace.proofs.row_text.put_stages.Given as goal

abbrev pub invariant-loop-stage : goal.invariant-loop-stage
invariant-loop-stage l = record {
  text : l.out ++ flat_map (stage_text l.flushed) (drop l.stage-index l.stages) ≡ l.fn.out ++ flat_map (stage_text l.flushed) l.stages;
  few : length l.out ≤ length l.fn.out + 46 * l.stage-index;
}
