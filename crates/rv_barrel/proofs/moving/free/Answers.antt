use Rattle.std.proofs.Common.{◌∙◌}
use Rattle.std.specs.Prelude.{None, length}
use Rattle.std.proofs.lemmas.List.{length-set}
use Rattle.rv_barrel.proofs.Going.{none_more}
use Rattle.rv_barrel.proofs.moving.free.Goals as goal

pub loop-stage-preserved : goal.loop-stage-preserved
loop-stage-preserved c = record {
  done = none_more c.loop-stage.stage (length c.args.slots.now) c.loop-stage.slots c.loop-stage-test.true c.loop-stage.invariant.long c.loop-stage.invariant.done;
  long = length-set c.loop-stage.slots c.loop-stage.stage None ∙ c.loop-stage.invariant.long;
}
