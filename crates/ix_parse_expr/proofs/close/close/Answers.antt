use Rattle.std.proofs.Common.{◌≡◌, ◌∷◌, subst, sym}
use Rattle.ix_tree.specs.Machine.{Stack, close}
use Rattle.ix_parse_state.specs.Parts.{part_of}
use Rattle.ix_parse_state.specs.Views.{stack_of, closing_frame}
use Rattle.ix_parse_state.specs.Moves.{Moves}
use Rattle.ix_parse_expr.proofs.close.close.Goals as goal

pub returns-in-Closing : goal.returns-in-Closing
returns-in-Closing c =
    let s : stack_of c.args.stack.items ≡ closing_frame c.in-Closing.frame ∷ stack_of c.in-Some.stack.items = rw c.in-Closing.is at c.in-Some.ensures.some in
    λ e. subst (λ (k : Stack). Moves c.close_frame.result (close e (part_of c.args.part) k c.args.token.now)) (sym s) (c.close_frame.ensures e)
