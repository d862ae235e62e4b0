use Rattle.ix_bits.specs.Operators.{is_true}
use Rattle.std.proofs.Common.{not}
use Rattle.ix_cells.proofs.Forms.{if_ok}
use Rattle.ix_cells.specs.Operands.{shown}
use Rattle.ix_cells.proofs.Comparisons.{not_test}
use Rattle.ix_cells.proofs.Tests.{some_bit, not_not}
use Rattle.ix_cells.proofs.truths.is_some.Goals as goal

pub returns-then-wire-eq1 : goal.returns-then-wire-eq1
returns-then-wire-eq1 c = some_bit c.args.a c.args.net.now c.if-wire-eq1.true

pub returns : goal.returns
returns c =
    if_ok c.turned.result _ _
    (λ r q. not_test (λ see. not (is_true (shown c.args.a see))) (λ see. is_true (shown c.args.a see)) (λ see. not_not (is_true (shown c.args.a see))) c.in_ok-test.ensures q) c.turned.ensures
