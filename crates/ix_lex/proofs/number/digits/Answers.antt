use Rattle.std.proofs.Common.{sym, rules}
use Rattle.std.proofs.lemmas.Option.{IfSome_then}
use Rattle.ix_lex.proofs.Options.{none_from, none_then}
use Rattle.ix_lex.proofs.Literals.{digits_from, no_digits_first, no_digits_run}
use Rattle.ix_tree.specs.Lexing.{IsRun}
use Rattle.ix_lex.specs.Numbers.{NoRun}
use Rattle.ix_lex.proofs.Scans.{at_rest}
use Rattle.ix_lex.proofs.number.digits.Goals as goal

pub returns-in_err-first-clause-none : goal.returns-in_err-first-clause-none
returns-in_err-first-clause-none c = none_from c.from_residual.result (no_digits_first c.args.base c.args.text.now (sym c.in_err-first.ensures.value))

pub returns-clause-some : goal.returns-clause-some
returns-clause-some c =
    IfSome_then c.run_value.result c.run_value.ensures.some
    (λ v r. digits_from c.args.base c.in_ok-first.first v c.args.text.now (search rules) (sym c.in_ok-first.ensures.value) (at_rest (λ z. IsRun c.args.base c.in_ok-first.first z v) 1 c.args.text.now r))

pub returns-clause-none : goal.returns-clause-none
returns-clause-none c =
    none_then c.run_value.result c.run_value.ensures.none
    (λ n. no_digits_run c.args.base c.in_ok-first.first c.args.text.now (sym c.in_ok-first.ensures.value) (at_rest (λ z. NoRun c.args.base c.in_ok-first.first z) 1 c.args.text.now n))
