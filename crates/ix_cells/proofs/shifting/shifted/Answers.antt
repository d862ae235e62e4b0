use Rattle.std.proofs.Common.{arith}
use Rattle.ix_bits.proofs.Patterns.{pow_rises}
use Rattle.ix_cells.proofs.Forms.{if_ok}
use Rattle.ix_cells.proofs.Shifted.{shift_short, shift_far}
use Rattle.ix_cells.proofs.shifting.shifted.Goals as goal

pub staged-requires-clause-few : goal.staged-requires-clause-few
staged-requires-clause-few c = (let r = pow_rises c.args.distance.width c.places_of-places.result (omega arith) in omega (arith, c.places_of-places.ensures.few))

pub returns-then-distance-places : goal.returns-then-distance-places
returns-then-distance-places c = if_ok c.staged.result _ _ (λ r q. shift_short c.args.way q) c.staged.ensures

pub returns : goal.returns
returns c =
    if_ok c.chosen.result _ _
    (λ r q. shift_far c.args.way c.places_of-places.result c.requires.some (omega arith) c.places_of-places.ensures.reach c.in_ok-current.ensures c.in_ok-near.ensures c.in_ok-out.ensures q) c.chosen.ensures
