use Rattle.std.proofs.Common.{◌≡◌, ◌+◌, ◌*◌, ◌/◌, List, length, arith, sym, subst}
use Rattle.std.proofs.lemmas.Option.{slice_get-get_or}
use Rattle.ix_cells.specs.declared.signal.Wire.{Wire}
use Rattle.ix_cells.specs.Tables.{Halves}
use Rattle.ix_cells.proofs.WireLists.{halves_none, halves_next}
use Rattle.ix_cells.proofs.lookups.halved.Goals as goal

pub loop-place-init : goal.loop-place-init
loop-place-init c =
    let A : List Wire → Type 0 = λ rs. Halves c.args.net.now c.args.net.now c.args.wires.now c.args.bit rs 0 in
    subst A (sym c.new-halves.ensures.items) (halves_none c.args.net.now c.args.wires.now c.args.bit)

pub loop-place-preserved : goal.loop-place-preserved
loop-place-preserved c =
    let A : List Wire → Type 0 = λ rs. Halves c.args.net.now c.chosen_once.new.net c.args.wires.now c.args.bit rs (c.loop-place.place + 1) in
    subst A (sym c.in_ok-push.ensures.items)
    (halves_next c.args.net.now c.loop-place.net c.chosen_once.new.net c.args.wires.now c.args.bit _ _ c.in_ok-wire.wire c.loop-place.halves.items c.loop-place.place c.loop-place.invariant
    (slice_get-get_or c.args.wires.now (2 * c.loop-place.place) _ (omega arith)) (slice_get-get_or c.args.wires.now (2 * c.loop-place.place + 1) _ (omega arith)) c.in_ok-wire.ensures)

pub returns : goal.returns
returns c = (let e : c.loop-place.place ≡ length c.args.wires.now / 2 = omega arith in subst (λ n. Halves c.args.net.now c.loop-place.net c.args.wires.now c.args.bit c.loop-place.halves.items n) e c.loop-place.invariant)
