use Rattle.std.proofs.Common.{◌≤◌, ◌+◌, ◌-◌, length, sym, ap, arith}
use Rattle.rv_trace.specs.declared.row.Row.{Row}
use Rattle.rv_bench.proofs.Counting.{last_is_newest}
use Rattle.rv_bench.proofs.summary.stop_of.Goals as goal

pub returns-in_default : goal.returns-in_default
returns-in_default c =
    let n = c.count.ensures in
    let le : length c.args.trace.now.rows ≤ c.count.result - 1 + 1 = omega (arith, n) in
    ap (λ (row : Row). row.stop) (sym (last_is_newest c.args.trace.now.rows (c.count.result - 1) c.row.result.now c.row.ensures le))
