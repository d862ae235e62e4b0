use Rattle.std.proofs.Common.{◌≡◌, ◌<◌, ◌≤◌, ◌+ℤ◌, pos, arith, get_or, set, length, length-set, refl, ◌∙◌, w64, to_z, of_z}
use Rattle.std.proofs.lemmas.List.{get_or_read}
use Rattle.ix_sheet.specs.Schedules.{node_at, weight_of}
use Rattle.ix_residual.proofs.Counts.{weight_low, counted_more, counted_fit, read_other}
use Rattle.ix_residual.proofs.balance.count.Goals as goal

pub overflow_add-index_mut : goal.overflow_add-index_mut
overflow_add-index_mut c =
    let p = c.args.p.now in
    let left = c.args.left.now.items in
    let e = get_or p.edges c.args.index (0, 0) in
    let forward = c.requires.valid.forward c.args.index (0, 0) c.requires.within in
    let w_low : c.weight-weight.result ≤ 128 = rw (c.weight-weight.ensures, c.as_slice-2.ensures, c.as_slice.ensures) (weight_low p c.requires.valid e.0) in
    let in_left : (get_or c.as_slice.result.now c.args.index (0, 0)).1 < length left = rw c.as_slice.ensures (omega (arith, c.requires.counted.len)) in
    let x : c.index_mut.result.now ≡ get_or left e.1 (pos 0)
    = rw c.as_slice.ensures at (get_or_read left (get_or c.as_slice.result.now c.args.index (0, 0)).1 c.index_mut.result.now in_left c.index_mut.ensures.value (pos 0)) in
    let before : c.args.index ≤ length p.edges = omega arith in
    let inside : e.1 < length p.ops = forward.1 in
    (counted_fit p c.args.index e.1 c.weight-weight.result left c.index_mut.result.now c.requires.valid c.requires.counted before inside w_low x).0

pub overflow_sub-index_mut : goal.overflow_sub-index_mut
overflow_sub-index_mut c =
    let p = c.args.p.now in
    let left = c.args.left.now.items in
    let e = get_or p.edges c.args.index (0, 0) in
    let forward = c.requires.valid.forward c.args.index (0, 0) c.requires.within in
    let w_low : c.weight-weight.result ≤ 128 = rw (c.weight-weight.ensures, c.as_slice-2.ensures, c.as_slice.ensures) (weight_low p c.requires.valid e.0) in
    let y = to_z w64 (of_z w64 (to_z w64 (of_z w64 c.index_mut.result.now) +ℤ to_z w64 c.weight-weight.result)) in
    let in_left : (get_or c.as_slice.result.now c.args.index (0, 0)).0 < length (set left (get_or c.as_slice.result.now c.args.index (0, 0)).1 y) = rw c.as_slice.ensures (omega (arith, c.requires.counted.len, length-set left e.1 y)) in
    let x : c.index_mut-2.result.now ≡ get_or left e.0 (pos 0)
    = (rw c.as_slice.ensures at (get_or_read (set left (get_or c.as_slice.result.now c.args.index (0, 0)).1 y) (get_or c.as_slice.result.now c.args.index (0, 0)).0 c.index_mut-2.result.now in_left c.index_mut-2.ensures.value (pos 0)))
    ∙ read_other p c.args.index left y c.requires.valid c.requires.within in
    let before : c.args.index ≤ length p.edges = omega arith in
    let inside : e.0 < length p.ops = omega arith in
    (counted_fit p c.args.index e.0 c.weight-weight.result left c.index_mut-2.result.now c.requires.valid c.requires.counted before inside w_low x).2

pub returns : goal.returns
returns c =
    let p = c.args.p.now in
    let left = c.args.left.now.items in
    let e = get_or p.edges c.args.index (0, 0) in
    let forward = c.requires.valid.forward c.args.index (0, 0) c.requires.within in
    let w = c.weight-weight.result in
    let w_low : w ≤ 128 = rw (c.weight-weight.ensures, c.as_slice-2.ensures, c.as_slice.ensures) (weight_low p c.requires.valid e.0) in
    let w_is : w ≡ weight_of (node_at p e.0) = rw (c.weight-weight.ensures, c.as_slice-2.ensures, c.as_slice.ensures) refl in
    let y = to_z w64 (of_z w64 (to_z w64 (of_z w64 c.index_mut.result.now) +ℤ to_z w64 w)) in
    let in_left : (get_or c.as_slice.result.now c.args.index (0, 0)).0 < length (set left (get_or c.as_slice.result.now c.args.index (0, 0)).1 y) = rw c.as_slice.ensures (omega (arith, c.requires.counted.len, length-set left e.1 y)) in
    let in_old : (get_or c.as_slice.result.now c.args.index (0, 0)).1 < length left = rw c.as_slice.ensures (omega (arith, c.requires.counted.len)) in
    let first : c.index_mut.result.now ≡ get_or left e.1 (pos 0)
    = rw c.as_slice.ensures at (get_or_read left (get_or c.as_slice.result.now c.args.index (0, 0)).1 c.index_mut.result.now in_old c.index_mut.ensures.value (pos 0)) in
    let second : c.index_mut-2.result.now ≡ get_or left e.0 (pos 0)
    = (rw c.as_slice.ensures at (get_or_read (set left (get_or c.as_slice.result.now c.args.index (0, 0)).1 y) (get_or c.as_slice.result.now c.args.index (0, 0)).0 c.index_mut-2.result.now in_left c.index_mut-2.ensures.value (pos 0)))
    ∙ read_other p c.args.index left y c.requires.valid c.requires.within in
    let before : c.args.index ≤ length p.edges = omega arith in
    let in_to : e.1 < length p.ops = forward.1 in
    let in_from : e.0 < length p.ops = omega arith in
    let up = (counted_fit p c.args.index e.1 w left c.index_mut.result.now c.requires.valid c.requires.counted before in_to w_low first).1 in
    let down = (counted_fit p c.args.index e.0 w left c.index_mut-2.result.now c.requires.valid c.requires.counted before in_from w_low second).3 in
    counted_more p c.args.index left _ w c.requires.valid c.requires.counted c.requires.within w_is (rw (c.as_slice.ensures, up, down, first, second) refl)
