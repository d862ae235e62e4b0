use Rattle.std.proofs.Common.{sym, ◌∙◌}
use Rattle.ix_cells.proofs.Forms.{if_ok}
use Rattle.ix_cells.proofs.Comparisons.{lt_kind, lt_signed_kind}
use Rattle.ix_cells.proofs.comparing.less.Goals as goal

pub returns-then-is_signed : goal.returns-then-is_signed
returns-then-is_signed c =
    if_ok c.below_signed.result _ _ (λ r q. lt_signed_kind c.args.a c.args.b c.in_ok-left.ensures c.width_of_both-width.ensures (sym c.is_signed.ensures ∙ c.if-is_signed.true) q) c.below_signed.ensures

pub returns-else-is_signed : goal.returns-else-is_signed
returns-else-is_signed c =
    if_ok c.below.result _ _ (λ r q. lt_kind c.args.a c.args.b c.in_ok-left.ensures c.width_of_both-width.ensures (sym c.is_signed.ensures ∙ c.if-is_signed.false) q) c.below.ensures
