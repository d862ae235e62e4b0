use Rattle.std.proofs.Common.{◌∙◌, sym, ap, refl, ◌<◌, ◌^◌}
use Rattle.ix_bits.proofs.Patterns.{pattern_of_number}
use Rattle.ix_unroll.specs.Values.{seen, seen_option}
use Rattle.ix_unroll.proofs.Typed.{bits_are_at, place_is, no_high, no_low}
use Rattle.ix_unroll.proofs.value.bits_at.Goals as goal

pub returns-then-high-x : goal.returns-then-high-x
returns-then-high-x c =
    let x = c.args.x in
    let below : x.bits.raw < 2 ^ x.ty.width = rw (← x.fits) x.bits.in_width in
    let high = place_is (seen c.args.high).number c.in_ok-high.high (sym c.place.ensures ∙ c.in_ok-high.was) in
    let low = place_is (seen c.args.low).number c.in_ok-low.low (sym c.place-2.ensures ∙ c.in_ok-low.was) in
    let within : c.in_ok-high.high < x.ty.width = rw (← x.fits) c.if-high-x.true in
    bits_are_at (seen x) _ _ c.in_ok-high.high c.in_ok-low.low _ x.bits.raw c.range.result.raw high.0 low.0 c.if-low-high.true within refl refl
    (pattern_of_number x.ty.signed x.ty.width x.bits.raw x.ty.some_width below) c.range.ensures.value

pub returns-in_err-high : goal.returns-in_err-high
returns-in_err-high c =
    ap seen_option c.from_residual.ensures
    ∙ no_high (seen c.args.x) (seen c.args.high).number (seen c.args.low).number (sym c.in_err-high.was ∙ c.place.ensures)

pub returns-in_err-low : goal.returns-in_err-low
returns-in_err-low c =
    ap seen_option c.from_residual-in_err-low.ensures
    ∙ no_low (seen c.args.x) (seen c.args.high).number (seen c.args.low).number (sym c.in_err-low.was ∙ c.place-2.ensures)
