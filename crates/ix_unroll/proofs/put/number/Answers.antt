use Rattle.std.proofs.Common.{◌≡◌, ◌∙◌, ap, sym, subst, refl, true, false, ℤ, pos}
use Rattle.std.specs.Prelude.{int_lt, unsigned_abs}
use Rattle.std.specs.Int.{w32}
use Rattle.std.proofs.lemmas.Int.{to_z-of_z}
use Rattle.ix_bits.specs.declared.operator.UnOp.TheVariants.{Neg}
use Rattle.ix_tree.specs.declared.token.Span.{Span}
use Rattle.ix_tree.specs.declared.expr.Expr.{Expr}
use Rattle.ix_tree.specs.Trees.{e_unary}
use Rattle.ix_tree.specs.View.{view}
use Rattle.ix_tree.specs.Unrolling.{literal, number_tree}
use Rattle.ix_unroll.proofs.put.number.Goals as goal

number_down : (s : Span) (v : ℤ) → int_lt v (pos 0) ≡ true → number_tree s v ≡ e_unary s Neg (literal s (unsigned_abs v))
number_down s v e = rw e refl

number_up : (s : Span) (v : ℤ) → int_lt v (pos 0) ≡ false → number_tree s v ≡ literal s (unsigned_abs v)
number_up s v e = rw e refl

pub returns-in_ok-new : goal.returns-in_ok-new
returns-in_ok-new c =
    let s = c.args.span in
    let same = to_z-of_z w32 c.args.value c.ranges.value in
    let negative = subst (λ (v : ℤ). int_lt v (pos 0) ≡ true) same c.if-negative.true in
    let size = subst (λ (v : ℤ). c.unsigned_abs.result ≡ unsigned_abs v) same c.unsigned_abs.ensures.value in
    ap (λ (x : Expr). e_unary s Neg (view x)) c.in_ok-new.ensures.ok
    ∙ ap (e_unary s Neg) (c.literal-literal.ensures ∙ ap (literal s) size)
    ∙ sym (number_down s c.args.value negative)

pub returns-else-negative : goal.returns-else-negative
returns-else-negative c =
    let s = c.args.span in
    let same = to_z-of_z w32 c.args.value c.ranges.value in
    let positive = subst (λ (v : ℤ). int_lt v (pos 0) ≡ false) same c.if-negative.false in
    let size = subst (λ (v : ℤ). c.unsigned_abs.result ≡ unsigned_abs v) same c.unsigned_abs.ensures.value in
    c.literal-literal.ensures ∙ ap (literal s) size ∙ sym (number_up s c.args.value positive)
