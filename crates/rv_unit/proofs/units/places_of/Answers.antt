use Rattle.std.proofs.Common.{arith}
use Rattle.rv_unit.proofs.Fewer.{room_rest, room_few}
use Rattle.rv_unit.proofs.units.places_of.Goals as goal

pub overflow_add-places-in-loop-last : goal.overflow_add-places-in-loop-last
overflow_add-places-in-loop-last c =
    let rest = room_rest c.args.stages c.args.lasts.now c.loop-last.last-index c.loop-last-test.true in
    let few = room_few c.args.stages c.args.lasts.now c.requires in
    omega (arith, rest, few)
