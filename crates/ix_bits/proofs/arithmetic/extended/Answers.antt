use Rattle.std.proofs.Common.{◌<◌, ◌^◌, ◌∙◌, sym}
use Rattle.ix_bits.proofs.Results.{extended_up}
use Rattle.ix_bits.proofs.arithmetic.extended.Goals as goal

pub returns-then-is_negative : goal.returns-then-is_negative
returns-then-is_negative c =
    let g : c.args.a.raw < 2 ^ c.args.ty.width = rw (← c.requires) c.args.a.in_width in
    rw c.mask.ensures
    (extended_up c.args.ty.signed c.args.ty.width c.args.a.raw c.args.ty.some_width c.args.ty.most_width g (sym c.is_negative.ensures ∙ c.if-is_negative.true))
