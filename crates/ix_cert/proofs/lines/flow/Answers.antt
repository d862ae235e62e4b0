use Rattle.std.proofs.Common.{arith}
use Rattle.ix_cert.proofs.Wordings.{no_flow}
use Rattle.ix_lines.specs.Readings.{texts}
use Rattle.ix_cert.proofs.lines.flow.Goals as goal

pub returns-then-amount-lt-LEAST_AMOUNT : goal.returns-then-amount-lt-LEAST_AMOUNT
returns-then-amount-lt-LEAST_AMOUNT c = no_flow c.in-Some.amount (texts c.args.words.now) (texts c.in-Some.rest.now) (omega (arith, c.if-amount-lt-LEAST_AMOUNT.true)) c.in-Some.ensures.1
