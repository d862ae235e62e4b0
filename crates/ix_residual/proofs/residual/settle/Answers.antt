use Rattle.std.proofs.Common.{◌≤◌, pos, arith, rules, FitsSigned, w64}
use Rattle.std.proofs.lemmas.Int.{ints}
use Rattle.ix_residual.specs.Residuals.{need_of}
use Rattle.ix_residual.proofs.Ends.{need_fits}
use Rattle.ix_residual.proofs.residual.settle.Goals as goal

pub overflow_cast-amount : goal.overflow_cast-amount
overflow_cast-amount c =
    let left = c.args.left.now in
    let fits : FitsSigned w64 c.left_at-need.result = search rules in
    let is = rw c.as_slice-2.ensures at c.left_at-need.ensures in
    let low : c.args.amount ≤ need_of c.left_at-need.result = rw is c.requires.need in
    let b = need_fits c.left_at-need.result c.args.amount fits low in
    omega (arith, ints)
