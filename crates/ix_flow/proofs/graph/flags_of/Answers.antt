use Rattle.std.proofs.Common.{◌∙◌}
use Rattle.ix_flow.proofs.Graphing.{flags_step, flags_end}
use Rattle.ix_flow.proofs.graph.flags_of.Goals as goal

pub loop-op-preserved : goal.loop-op-preserved
loop-op-preserved c =
    flags_step c.args.spawned.now c.args.ops.now c.loop-op.op-index c.op-item.result c.is_spawned.result c.loop-op.out.items _ c.loop-op-test.true c.op-item.is c.is_spawned.ensures c.loop-op.invariant c.in_ok-push.ensures.items

pub returns : goal.returns
returns c = c.from_vec.ensures ∙ flags_end c.args.spawned.now c.args.ops.now c.loop-op.op-index c.loop-op.out.items c.loop-op-test.false c.loop-op.invariant
