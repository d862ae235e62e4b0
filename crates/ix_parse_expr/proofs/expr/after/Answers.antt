use Rattle.std.proofs.Common.{◌≡◌, ◌∙◌, ℕ, Result, subst, sym}
use Rattle.ix_tree.specs.declared.token.Token.{Token}
use Rattle.ix_tree.specs.Trees.{Part}
use Rattle.ix_tree.specs.Machine.{Stack, close, after}
use Rattle.ix_parse_state.specs.declared.stop.Stop.{Stop}
use Rattle.ix_parse_state.specs.declared.state.Reader.{Reader}
use Rattle.ix_parse_state.specs.Parts.{part_of}
use Rattle.ix_parse_state.specs.Views.{stack_of}
use Rattle.ix_parse_state.specs.Moves.{Moves}
use Rattle.ix_parse_expr.proofs.expr.after.Goals as goal

closed : (r : Result Reader Stop) (p d : ℕ) (v : Part) (k : Stack) (t : Token) → p ≡ 1 → Moves r (close d v k t) → Moves r (after p d v k t)
unfolding after
closed r p d v k t e h = subst (λ (q : ℕ). Moves r (after q d v k t)) (sym e) h

pub returns-then-power-eq1 : goal.returns-then-power-eq1
returns-then-power-eq1 c =
    closed c.close.result _ c.args.depth (part_of c.args.part) (stack_of c.args.stack.items) c.args.token.now
    (sym c.power-power.ensures ∙ c.if-power-eq1.true)
    (c.close.ensures c.args.depth)
