use Rattle.std.proofs.Common.{◌<◌, ◌^◌, refl, ap, ◌∙◌}
use Rattle.ix_bits.specs.Widths.{least_width}
use Rattle.ix_unroll.proofs.Literals.{literal_is}
use Rattle.ix_unroll.proofs.put.literal.Goals as goal

pub returns : goal.returns
returns c =
    let w = c.least_width-width.result in
    let below : c.args.value < 2 ^ w = rw (← c.from-raw.ensures) c.least_width-width.ensures.holds in
    literal_is c.args.span c.args.value w _ _ (c.least_width-width.ensures.value ∙ ap least_width c.from-raw.ensures) refl refl c.from-raw.ensures refl below
