use Rattle.std.proofs.Common.{◌≡◌, ◌∙◌, ◌+◌, ◌∷◌, sym, subst, arith}
use Rattle.ix_tree.specs.Machine.{Stack, begin_type, begin_expr, f_type_cast, f_round}
use Rattle.ix_parse_state.specs.Views.{stack_of}
use Rattle.ix_parse_state.specs.Moves.{Moves}
use Rattle.ix_parse_state.proofs.Nestings.{lifted_type}
use Rattle.ix_parse_expr.proofs.Deep.{lifted_expr, opened_type, opened_expr}
use Rattle.ix_parse_expr.proofs.expr.after_open.Goals as goal

pub returns-in-Ok : goal.returns-in-Ok
returns-in-Ok c =
    let r = c.begin_type.result in
    let d = c.args.depth in
    let o = c.args.first in
    let k = stack_of c.args.stack.items in
    let t = c.args.token.now in
    let e : stack_of c.in-Ok.stack.items ≡ f_type_cast d o ∷ k = c.in-Ok.ensures in
    let h : Moves r (begin_type c.saturating_add-inner.result (f_type_cast d o ∷ k) t) =
    subst (λ (s : Stack). Moves r (begin_type c.saturating_add-inner.result s t)) e c.begin_type.ensures in
    opened_type r d o k t (sym c.is_word.ensures ∙ c.if-is_word.false) (sym c.is_word-2.ensures ∙ c.if-is_word-2.false)
    (sym c.is_type_word.ensures ∙ c.if-is_type_word.true)
    (lifted_type r c.saturating_add-inner.result (d + 1) (f_type_cast d o ∷ k) t (λ q. omega arith) (λ q. omega arith) h)

pub returns-in-Ok-push : goal.returns-in-Ok-push
returns-in-Ok-push c =
    let r = c.begin_expr.result in
    let d = c.args.depth in
    let o = c.args.first in
    let k = stack_of c.args.stack.items in
    let t = c.args.token.now in
    let e : stack_of c.in-Ok-push.stack.items ≡ f_round d o ∷ k = c.in-Ok-push.ensures in
    let h : Moves r (begin_expr c.saturating_add-inner.result (f_round d o ∷ k) t) =
    subst (λ (s : Stack). Moves r (begin_expr c.saturating_add-inner.result s t)) e c.begin_expr.ensures in
    opened_expr r d o k t (sym c.is_word.ensures ∙ c.if-is_word.false) (sym c.is_word-2.ensures ∙ c.if-is_word-2.false)
    (sym c.is_type_word.ensures ∙ c.if-is_type_word.false)
    (lifted_expr r c.saturating_add-inner.result (d + 1) (f_round d o ∷ k) t (λ q. omega arith) (λ q. omega arith) h)
