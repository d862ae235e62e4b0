use Rattle.std.proofs.Common.{◌≡◌, ◌≤◌, length, Some, refl, arith}
use Rattle.std.specs.Prelude.{slice_get}
use Rattle.std.proofs.lemmas.Option.{slice_get_read}
use Rattle.ix_dump.proofs.Passing.{part_start, part_step, part_breaks, part_end, at_err}
use Rattle.ix_dump.proofs.Lists.{changes_next, changes_end}
use Rattle.ix_dump.proofs.row.write_changes.Goals as goal

pub loop-k-init : goal.loop-k-init
loop-k-init g c = record {
  part = part_start refl;
  never_fell = omega arith;
}

pub returns-in_err-write_change-clause-front : goal.returns-in_err-write_change-clause-front
returns-in_err-write_change-clause-front g c =
    let k = c.loop-k.k in
    let now = c.args.now.now in
    let before = c.args.before.now in
    let old : slice_get before k ≡ Some c.index-before-k.result
    = slice_get_read before (length before) k c.index-before-k.result refl (omega arith) c.index-before-k.is in
    let new : slice_get now k ≡ Some c.index-now-k.result
    = slice_get_read now (length now) k c.index-now-k.result refl (omega arith) c.index-now-k.is in
    at_err c.from_residual.result
    (part_breaks _ _ c.loop-k.invariant.part (changes_next c.args.number k before now c.index-before-k.result c.index-now-k.result old new) c.in_err-write_change.ensures.front)

pub loop-k-preserved : goal.loop-k-preserved
loop-k-preserved g c =
    let k = c.loop-k.k in
    let now = c.args.now.now in
    let before = c.args.before.now in
    let old : slice_get before k ≡ Some c.index-before-k.result
    = slice_get_read before (length before) k c.index-before-k.result refl (omega arith) c.index-before-k.is in
    let new : slice_get now k ≡ Some c.index-now-k.result
    = slice_get_read now (length now) k c.index-now-k.result refl (omega arith) c.index-now-k.is in
    record {
      part = part_step c.loop-k.invariant.part (changes_next c.args.number k before now c.index-before-k.result c.index-now-k.result old new) c.in_ok-write_change.ensures.whole;
      never_fell = omega (arith, c.loop-k.invariant.never_fell, c.in_ok-write_change.ensures.never_fell);
    }

pub returns-clause-whole : goal.returns-clause-whole
returns-clause-whole g c =
    let past : length c.args.now.now ≤ c.loop-k.k = omega arith in
    part_end c.loop-k.invariant.part (changes_end c.args.number c.loop-k.k c.args.before.now c.args.now.now past)
