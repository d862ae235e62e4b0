use Rattle.std.proofs.Common.{◌≡◌, ◌∙◌, sym, ◌-◌, ◌/◌, ◌<◌, ◌^◌, arith}
use Rattle.ix_bits.proofs.Results.{ones_of}
use Rattle.ix_unroll.specs.Values.{seen}
use Rattle.ix_unroll.proofs.Typed.{negative_is, down_fits, down_leaves}
use Rattle.ix_unroll.proofs.value.in_int.Goals as goal

pub overflow_sub-beyond-then-is_negative : goal.overflow_sub-beyond-then-is_negative
overflow_sub-beyond-then-is_negative c =
    let x = c.args.x in
    let below : x.bits.raw < 2 ^ x.ty.width = rw (← x.fits) x.bits.in_width in
    let e : 340282366920938463463374607431768211455 / 2 ^ (128 - x.ty.width) ≡ 2 ^ x.ty.width - 1 = ones_of x.ty.width x.ty.most_width in
    rw e (omega arith)

pub returns-then-beyond : goal.returns-then-beyond
returns-then-beyond c =
    let x = c.args.x in
    let below : x.bits.raw < 2 ^ x.ty.width = rw (← x.fits) x.bits.in_width in
    down_fits (seen x).number (2 ^ x.ty.width) x.bits.raw _
    (negative_is x.ty.signed x.ty.width x.bits.raw x.ty.some_width below (sym c.is_negative.ensures ∙ c.if-is_negative.true)) (ones_of x.ty.width x.ty.most_width) c.if-beyond.true

pub returns-else-beyond : goal.returns-else-beyond
returns-else-beyond c =
    let x = c.args.x in
    let below : x.bits.raw < 2 ^ x.ty.width = rw (← x.fits) x.bits.in_width in
    down_leaves (seen x).number (2 ^ x.ty.width) x.bits.raw _
    (negative_is x.ty.signed x.ty.width x.bits.raw x.ty.some_width below (sym c.is_negative.ensures ∙ c.if-is_negative.true)) (ones_of x.ty.width x.ty.most_width) c.if-beyond.false
