use Rattle.std.proofs.Common.{refl, ap, ◌∙◌, ◌-◌, ◌^◌}
use Rattle.ix_cells.proofs.Forms.{if_ok}
use Rattle.ix_cells.proofs.Growing.{of_width}
use Rattle.ix_cells.proofs.Extensions.{signed_adds}
use Rattle.ix_cells.proofs.extending.extended_signed.Goals as goal

pub returns : goal.returns
returns c =
    if_ok c.joined.result _ _
    (λ r p. signed_adds c.args.width c.ones-high.result.raw _ c.requires.some c.requires.wider (c.ones-high.ensures.value ∙ ap (λ n. 2 ^ n - 1) refl)
    c.in_ok-sign.ensures (of_width c.ones-high.result.width (c.args.width - c.args.a.width) c.ones-high.ensures.width c.in_ok-negative.ensures) c.in_ok-positive.ensures c.in_ok-above.ensures p)
    c.joined.ensures
