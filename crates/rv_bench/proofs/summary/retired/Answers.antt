use Rattle.std.proofs.Common.{◌≤◌, length, sym, arith}
use Rattle.rv_trace.specs.Trace.{retirements}
use Rattle.rv_bench.proofs.Counting.{no_retired, retired_more, all_of}
use Rattle.rv_bench.proofs.summary.retired.Goals as goal

pub loop-k-init : goal.loop-k-init
loop-k-init c = record { count = sym no_retired; few = omega arith }

pub loop-k-preserved : goal.loop-k-preserved
loop-k-preserved c =
    let few = c.loop-k.invariant.few in
    let next = c.counted-count.ensures in
    record {
      count =
          retired_more c.args.trace.now.rows c.loop-k.k c.row.result.now c.loop-k.count c.counted-count.result c.is_some.result c.row.ensures c.loop-k.invariant.count c.is_some.ensures c.counted-count.ensures;
      few = grind (arith, few, next);
    }

pub returns : goal.returns
returns c =
    let le : length c.args.trace.now.rows ≤ c.loop-k.k = omega arith in
    all_of retirements c.args.trace.now.rows c.loop-k.k c.loop-k.count le c.loop-k.invariant.count
