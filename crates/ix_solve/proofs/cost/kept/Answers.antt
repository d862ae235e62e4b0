use Rattle.std.proofs.Common.{arith, ℕ, ◌*◌, ◌≤◌, get_or}
use Rattle.std.proofs.Math.Nat.{mul-le-mul}
use Rattle.ix_residual.proofs.Counts.{weight_low}
use Rattle.ix_solve.proofs.cost.kept.Goals as goal

product_low : (w d : ℕ) → w ≤ 128 → d ≤ 255 → w * d ≤ 32640
product_low w d a b = omega (arith, mul-le-mul a b)

pub returns-clause-low : goal.returns-clause-low
returns-clause-low c =
    let to = (get_or c.as_slice.result.now c.args.index (0, 0)).1 in
    let from = (get_or c.as_slice.result.now c.args.index (0, 0)).0 in
    let low : c.weight.result ≤ 128 = rw (c.weight.ensures, c.as_slice-2.ensures) (weight_low c.args.p.now c.requires.valid from) in
    let byte = c.type_inv.times to in
    product_low c.weight.result _ low (omega (arith, byte))
