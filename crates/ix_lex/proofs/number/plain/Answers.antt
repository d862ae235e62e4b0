use Rattle.ix_tree.specs.Lexing.{IsDigits}
use Rattle.ix_lex.specs.Numbers.{NoDigits}
use Rattle.ix_lex.proofs.Options.{none_from}
use Rattle.ix_lex.proofs.Scans.{at_rest}
use Rattle.ix_lex.proofs.Literals.{decimal_is, zero_is, hexadecimal_is, binary_is, no_decimal, no_prefixed, two_values}
use Rattle.ix_lex.proofs.number.plain.Goals as goal

pub returns-in_err-digits-clause-none : goal.returns-in_err-digits-clause-none
returns-in_err-digits-clause-none c = none_from c.from_residual.result (no_decimal c.args.text.now c.requires.plain c.if-text-ne48.true c.in_err-digits.ensures.none)

pub returns-then-text-ne48-clause-some : goal.returns-then-text-ne48-clause-some
returns-then-text-ne48-clause-some c = decimal_is c.args.text.now c.in_ok-digits.field-0 c.unsized_kind.result c.requires.some c.if-text-ne48.true c.in_ok-digits.ensures.some c.unsized_kind.ensures

pub returns-then-text-eq1-clause-some : goal.returns-then-text-eq1-clause-some
returns-then-text-eq1-clause-some c = zero_is c.args.text.now c.unsized_kind-then-text-eq1.result c.if-text-eq1.true c.if-text-ne48.false c.unsized_kind-then-text-eq1.ensures

pub returns-in_err-digits-in-120-clause-none : goal.returns-in_err-digits-in-120-clause-none
returns-in_err-digits-in-120-clause-none c =
    none_from c.from_residual-in_err-digits-in-120.result
    (no_prefixed c.args.text.now c.requires.plain c.if-text-ne48.false c.if-text-eq1.false
    (λ e. at_rest (λ z. NoDigits 16 z) 2 c.args.text.now c.in_err-digits-in-120.ensures.none)
    (λ e. absurd (two_values _ c.in-120.is e)))

pub returns-in_err-digits-in-98-clause-none : goal.returns-in_err-digits-in-98-clause-none
returns-in_err-digits-in-98-clause-none c =
    none_from c.from_residual-in_err-digits-in-98.result
    (no_prefixed c.args.text.now c.requires.plain c.if-text-ne48.false c.if-text-eq1.false
    (λ e. absurd (two_values _ e c.in-98.is))
    (λ e. at_rest (λ z. NoDigits 2 z) 2 c.args.text.now c.in_err-digits-in-98.ensures.none))

pub returns-in_ok-digits-in-120-clause-some : goal.returns-in_ok-digits-in-120-clause-some
returns-in_ok-digits-in-120-clause-some c =
    hexadecimal_is c.args.text.now c.in_ok-digits-in-120.field-0 c.unsized_kind-in-120.result c.requires.some c.if-text-eq1.false c.if-text-ne48.false c.in-120.is
    (at_rest (λ z. IsDigits 16 z c.in_ok-digits-in-120.field-0) 2 c.args.text.now c.in_ok-digits-in-120.ensures.some)
    c.unsized_kind-in-120.ensures

pub returns-in_ok-digits-in-98-clause-some : goal.returns-in_ok-digits-in-98-clause-some
returns-in_ok-digits-in-98-clause-some c =
    binary_is c.args.text.now c.in_ok-digits-in-98.field-0 c.unsized_kind-in-98.result c.requires.some c.if-text-eq1.false c.if-text-ne48.false c.in-98.is
    (at_rest (λ z. IsDigits 2 z c.in_ok-digits-in-98.field-0) 2 c.args.text.now c.in_ok-digits-in-98.ensures.some)
    c.unsized_kind-in-98.ensures
