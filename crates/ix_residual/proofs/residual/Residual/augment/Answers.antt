use Rattle.std.proofs.Common.{◌≡◌, arith}
use Rattle.ix_residual.proofs.Ends.{room_each, room_most}
use Rattle.ix_residual.proofs.residual.Residual.augment.Goals as goal

pub move_along-requires-clause-carried : goal.move_along-requires-clause-carried
move_along-requires-clause-carried c =
    let each = room_each c.args.self.now.amounts c.most_between-most.result c.args.path.now.steps in
    rw (c.room-amount.ensures, c.as_slice-2.ensures, c.as_slice-steps.ensures) each

pub settle-requires-clause-spare : goal.settle-requires-clause-spare
settle-requires-clause-spare c =
    let le = room_most c.as_slice-2.result.now c.most_between-most.result c.as_slice-steps.result.now in
    let is = c.most_between-most.ensures in
    let r = c.room-amount.ensures in
    let same : c.args.self.now.left ≡ c.as_slice.result.now = cc in
    rw same (omega arith)

pub settle-requires-clause-need : goal.settle-requires-clause-need
settle-requires-clause-need c =
    let le = room_most c.as_slice-2.result.now c.most_between-most.result c.as_slice-steps.result.now in
    let is = c.most_between-most.ensures in
    let r = c.room-amount.ensures in
    let same : c.args.self.now.left ≡ c.as_slice.result.now = cc in
    rw same (omega arith)
