use Rattle.std.proofs.Common.{ℕ, ◌≤◌, subst, sym}
use Rattle.ix_parse_expr.proofs.Powers.{some_power}
use Rattle.ix_parse_expr.proofs.expr.after_settled.Goals as goal

pub settle-requires : goal.settle-requires
settle-requires c = subst (λ (n : ℕ). 1 ≤ n) (sym c.power.ensures) (some_power c.args.token.now.kind)
