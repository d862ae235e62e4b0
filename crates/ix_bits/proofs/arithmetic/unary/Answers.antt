use Rattle.std.proofs.Common.{◌<◌, ◌+◌, ◌^◌, ◌%◌, ◌∙◌, ap, ℕ, arith, true}
use Rattle.ix_bits.specs.Types.{number_of}
use Rattle.ix_bits.specs.Operators.{value_of}
use Rattle.ix_bits.proofs.InRange.{unary_holds}
use Rattle.ix_bits.proofs.Results.{within_value, masked}
use Rattle.ix_bits.proofs.Operations.{negated, turned}
use Rattle.ix_bits.specs.declared.operator.UnOp.TheVariants.{Neg}
use Rattle.ix_bits.proofs.arithmetic.unary.Goals as goal

pub returns-in-Neg-clause-number : goal.returns-in-Neg-clause-number
returns-in-Neg-clause-number c =
    let g : c.args.a.raw < 2 ^ c.args.ta.width = rw (← c.requires.width) c.args.a.in_width in
    let x = value_of c.args.ta c.args.a.raw in
    let p = within_value c.args.ta.signed c.args.ta.width c.args.a.raw c.args.ta.some_width g in
    let most = rw c.in-Neg.is at c.requires.typed in
    let e = negated (2 ^ 128) x c.wrapping_neg.result c.wrapping_neg.type_inv (rw (← c.extended.ensures) c.wrapping_neg.ensures) in
    rw (c.in-Neg.is, c.truncated.ensures.width)
    (masked true (c.args.ta.width + 1) c.truncated.result.raw _ (omega arith) most (unary_holds Neg c.args.ta x p) (c.truncated.ensures.value ∙ ap (λ (n : ℕ). n % 2 ^ (c.args.ta.width + 1)) e))

pub returns-in-Not-clause-number : goal.returns-in-Not-clause-number
returns-in-Not-clause-number c =
    let g : c.args.a.raw < 2 ^ c.args.ta.width = rw (← c.requires.width) c.args.a.in_width in
    rw (c.in-Not.is, c.truncated-in-Not.ensures.width)
    (ap (number_of c.args.ta.signed c.args.ta.width) (c.truncated-in-Not.ensures.value ∙ turned c.args.ta.signed c.args.ta.width c.args.a.raw c.args.ta.some_width c.args.ta.most_width g))
