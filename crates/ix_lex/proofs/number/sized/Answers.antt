use Rattle.std.proofs.Common.{◌+◌, sym, arith}
use Rattle.std.proofs.lemmas.Option.{IfSome_then}
use Rattle.ix_lex.proofs.Options.{none_from, none_then}
use Rattle.ix_lex.proofs.Literals.{sized_no_width, sized_no_letter, sized_no_base, sized_no_digits, sized_too_large, sized_some}
use Rattle.ix_tree.specs.Lexing.{IsDigits}
use Rattle.ix_lex.specs.Numbers.{NoDigits}
use Rattle.ix_lex.proofs.Scans.{at_rest}
use Rattle.ix_lex.proofs.number.sized.Goals as goal

pub returns-in_err-width-clause-none : goal.returns-in_err-width-clause-none
returns-in_err-width-clause-none c =
    none_from c.from_residual.result (sized_no_width c.args.text.now c.args.tick c.requires.within c.requires.tick c.requires.before c.in_err-width.ensures.none)

pub returns-then-tick-text-clause-none : goal.returns-then-tick-text-clause-none
returns-then-tick-text-clause-none c = sized_no_letter c.args.text.now c.args.tick c.requires.within c.requires.tick c.requires.before c.if-tick-text.true

pub returns-in_err-base-clause-none : goal.returns-in_err-base-clause-none
returns-in_err-base-clause-none c =
    none_from c.from_residual-in_err-base.result
    (sized_no_base c.args.text.now c.args.tick c.requires.within c.requires.tick c.requires.before (sym c.in_err-base.ensures.value))

pub returns-in_err-digits-clause-none : goal.returns-in_err-digits-clause-none
returns-in_err-digits-clause-none c =
    none_from c.from_residual-in_err-digits.result
    (sized_no_digits c.args.text.now c.args.tick c.in_ok-base.base c.requires.within c.requires.tick c.requires.before (sym c.in_ok-base.ensures.value) (at_rest (λ z. NoDigits c.in_ok-base.base z) (c.args.tick + 2) c.args.text.now c.in_err-digits.ensures.none))

pub returns-clause-some : goal.returns-clause-some
returns-clause-some c =
    IfSome_then c.sized_kind.result c.sized_kind.ensures.some
    (λ kind k. sized_some c.args.text.now c.args.tick c.in_ok-width.width c.in_ok-base.base c.in_ok-digits.field-0 kind c.requires.within c.requires.tick (omega arith) c.in_ok-width.ensures.some (sym c.in_ok-base.ensures.value) (at_rest (λ z. IsDigits c.in_ok-base.base z c.in_ok-digits.field-0) (c.args.tick + 2) c.args.text.now c.in_ok-digits.ensures.some) k)

pub returns-clause-none : goal.returns-clause-none
returns-clause-none c =
    none_then c.sized_kind.result c.sized_kind.ensures.none
    (sized_too_large c.args.text.now c.args.tick c.in_ok-width.width c.in_ok-base.base c.in_ok-digits.field-0 c.requires.within c.requires.tick c.requires.before c.in_ok-width.ensures.some (sym c.in_ok-base.ensures.value) (at_rest (λ z. IsDigits c.in_ok-base.base z c.in_ok-digits.field-0) (c.args.tick + 2) c.args.text.now c.in_ok-digits.ensures.some))
