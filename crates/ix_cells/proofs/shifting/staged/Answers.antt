use Rattle.std.proofs.Common.{◌≡◌, ℕ, ◌%◌, ◌^◌, [], ◌∷◌, arith, refl, subst}
use Rattle.ix_cells.specs.Growth.{Adds}
use Rattle.ix_cells.specs.Moves.{moved}
use Rattle.ix_cells.proofs.Moving.{stage_below}
use Rattle.ix_cells.proofs.Shifted.{shift_first, shift_next}
use Rattle.ix_cells.proofs.shifting.staged.Goals as goal

pub loop-place-init : goal.loop-place-init
loop-place-init c = shift_first c.args.way c.args.net.now c.args.a c.args.distance c.requires.some

pub loop-place-preserved : goal.loop-place-preserved
loop-place-preserved c = shift_next c.args.way c.args.a.width c.loop-place.place c.requires.some refl c.loop-place.invariant c.in_ok-current.ensures

pub returns : goal.returns
returns c =
    let e : c.loop-place.place ≡ c.args.places = omega arith in
    let P : ℕ → Type 0 = λ n. Adds (c.args.a ∷ c.args.distance ∷ []) c.args.net.now c.loop-place.net c.loop-place.current c.args.a.width
    (λ see. moved c.args.way c.args.a.width (see c.args.a.signal) (see c.args.distance.signal % 2 ^ n)) in
    subst P e c.loop-place.invariant

pub stage-requires-clause-below : goal.stage-requires-clause-below
stage-requires-clause-below c = rw c.loop-place.invariant.wide (stage_below c.loop-place.place c.args.places c.args.a.width (omega arith) c.requires.few)
