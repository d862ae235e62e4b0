use Rattle.std.proofs.Common.{◌≡◌, ◌*◌, ◌≤◌, take, slice_index}
use Rattle.std.specs.Prelude.{sum_by}
use Rattle.ix_sheet.specs.Schedules.{kept_along}
use Rattle.ix_solve.proofs.cost.total_kept.Given as goal

abbrev pub invariant-loop-index : goal.invariant-loop-index
invariant-loop-index l = record {
  sum : l.total ≡ sum_by (kept_along l.p (slice_index l.times)) (take l.index l.p.edges);
  low : l.total ≤ 32640 * l.index;
}
